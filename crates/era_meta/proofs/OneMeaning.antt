-- One body and the same pages say one meaning, and so does one image.
use Rattle.std.proofs.Common.{◌≡◌, ℕ, List, Option, Some, None, refl, sym, ap, ◌∙◌, subst}
use Rattle.std.proofs.lemmas.Bool.{false≢true}
use Rattle.era_layout.specs.Root.{RootFields, root_bytes}
use Rattle.era_slots.specs.Slot.{body_of}
use Rattle.era_meta.specs.Meaning.{Meaning, pages_in, meaning_of, marks_on, IsHeld, IsWholeRoot, IsImageOf}
use Rattle.era_meta.proofs.LawsBelow.{OneRoot, OneActive}

same-held : OneRoot → (page : ℕ → List ℕ) (root : RootFields) (one two : Option RootFields) → IsHeld page root one → IsHeld page root two
    → meaning_of page root one ≡ meaning_of page root two
same-held law page root None None first second = refl
same-held law page root None (Some two) first second = absurd (false≢true (sym first ∙ second.flag))
same-held law page root (Some one) None first second = absurd (false≢true (sym second ∙ first.flag))
same-held law page root (Some one) (Some two) first second =
    ap (λ (held : RootFields). record { marks = marks_on page root; held = Some (marks_on page held) })
    (law one two first.valid second.valid (sym first.spelled ∙ second.spelled))

pub same-meaning : OneRoot → (page : ℕ → List ℕ) (one two : RootFields) (held beside : Option RootFields) → IsWholeRoot page one held
    → IsWholeRoot page two beside → root_bytes one ≡ root_bytes two → meaning_of page one held ≡ meaning_of page two beside
same-meaning law page one two held beside first second bytes =
    let same = law one two first.valid second.valid bytes in
    subst (λ (root : RootFields). meaning_of page one held ≡ meaning_of page root beside) same
    (same-held law page one held beside first.snapshot (subst (λ (root : RootFields). IsHeld page root beside) (sym same) second.snapshot))

pub one-meaning : OneRoot → OneActive → (one two : Meaning) (image : List ℕ) → IsImageOf one image → IsImageOf two image → one ≡ two
one-meaning roots active one two image first second =
    let slots = active first.slot second.slot image first.two second.two first.active second.active in
    first.says ∙ (same-meaning roots (pages_in image) first.root second.root first.held second.held first.whole second.whole
    (sym first.spelled ∙ (ap (λ (slot : ℕ). body_of slot image) slots ∙ second.spelled)) ∙ sym second.says)
