-- What is kept through a closing of the gate, and through puts of pages: the committed meaning, and what was left.
use Rattle.std.proofs.Common.{◌≡◌, ℕ, ◌<◌, ◌⊎◌, Bool, false, List, Option, length, sym, ◌∙◌, subst, inl, inr}
use Rattle.std.proofs.lemmas.Bool.{false≢true}
use Rattle.std.specs.List.{AllByRecursion}
use Rattle.era_base.specs.CrashModel.{State, Leaves}
use Rattle.era_layout.specs.Root.{RootFields}
use Rattle.era_slots.specs.Slot.{page_of}
use Rattle.era_slots.specs.Standing.{IsDurable, Stands}
use Rattle.era_slots.specs.Promise.{KeepsBody, KeepsPages, Begins}
use Rattle.era_meta.specs.Meaning.{Meaning, pages_in, reached, IsRootBody, IsWholeRoot, IsImageOf}
use Rattle.era_meta.specs.Keeping.{stored_in, IsRetained, Keeps, IsLeft, IsOfLeft}
use Rattle.era_meta.specs.Putting.{IsNone, PutsAmong}
use Rattle.era_meta.proofs.Agree.{all_weaker, all_with, whole-agree, meaning-agree}
use Rattle.era_meta.proofs.LawsBelow.{LeftPages, EitherBody, OpenBodies}
use Rattle.era_meta.proofs.Kept.{LiesIn, reached-lies, Stay, kept-stays, meaning-stays, slot-stay, keeps-images}

retained-stays : (target number : ℕ) (before now : State) → target < 2 → length now.seen ≡ length before.seen → KeepsBody target before now
    → KeepsPages target before now → IsRetained target number before → IsRetained target number now
retained-stays target number before now slot size body pages left = record {
  spelled = subst IsRootBody (sym body.holds) left.spelled;
  failed = λ numbered.
      let failed = left.failed (sym body.numbered ∙ numbered) in
      record {
        root = failed.root;
        held = failed.held;
        spelled = body.holds ∙ failed.spelled;
        kept = kept-stays failed.root failed.held before now
            (slot-stay target (pages_in before.seen) failed.root failed.held before now slot failed.kept.whole size pages) failed.kept;
      };
}

pub begins-keeps : (target number : ℕ) (may_be_open : Bool) (root : RootFields) (held : Option RootFields) (before now : State)
    → Keeps target number may_be_open root held before → Begins target number may_be_open before now → Keeps target number may_be_open root held now
begins-keeps target number may_be_open root held before now keeps begins =
    let slot = keeps.stands.slot in
    record {
      stands = begins.stands;
      formatted = keeps.formatted;
      spelled = begins.kept.holds ∙ keeps.spelled;
      kept = kept-stays root held before now (slot-stay target (pages_in before.seen) root held before now slot keeps.kept.whole begins.same.bytes begins.pages) keeps.kept;
      left = λ flag. retained-stays target number before now slot begins.same.bytes begins.failed begins.pages (keeps.left flag);
    }

pub begins-says : (target number : ℕ) (may_be_open : Bool) (root : RootFields) (held : Option RootFields) (before now : State)
    → Keeps target number may_be_open root held before → Begins target number may_be_open before now → stored_in now root held ≡ stored_in before root held
begins-says target number may_be_open root held before now keeps begins =
    meaning-stays root held before now
    (slot-stay target (pages_in before.seen) root held before now keeps.stands.slot keeps.kept.whole begins.same.bytes begins.pages)

-- what is left was left before
pub left-before : (target number : ℕ) (left : Meaning) (before now : State) → target < 2 → length now.seen ≡ length before.seen
    → KeepsBody target before now → KeepsPages target before now → IsLeft target number left now → IsLeft target number left before
left-before target number left before now slot size body pages is =
    let stay = slot-stay target (pages_in now.seen) is.root is.held before now slot is.whole size pages in
    let back = all_weaker (λ block. page_of block before.seen ≡ page_of block now.seen) (λ block. page_of block now.seen ≡ page_of block before.seen)
    (reached is.root is.held) (λ block same. sym same) stay.same in
    record {
      root = is.root;
      held = is.held;
      numbered = sym body.numbered ∙ is.numbered;
      spelled = sym body.holds ∙ is.spelled;
      whole = whole-agree (pages_in now.seen) (pages_in before.seen) is.root is.held back is.whole;
      says = is.says ∙ meaning-agree (pages_in now.seen) (pages_in before.seen) is.root is.held back;
    }

pub of_left-before : (target number : ℕ) (may_be_open : Bool) (before now : State) (image : List ℕ) → target < 2 → length now.seen ≡ length before.seen
    → KeepsBody target before now → KeepsPages target before now → IsOfLeft target number may_be_open now image
    → IsOfLeft target number may_be_open before image
of_left-before target number may_be_open before now image slot size body pages is =
    (is.0, (is.1.0, left-before target number is.1.0 before now slot size body pages is.1.1, is.1.2))

-- the images of a moment of `begin`
pub begins-leave : LeftPages → EitherBody → OpenBodies → (target number : ℕ) (may_be_open : Bool) (root : RootFields) (held : Option RootFields)
    (before now : State) → Keeps target number may_be_open root held before → Begins target number may_be_open before now
    → Leaves (λ image. IsImageOf (stored_in before root held) image ⊎ IsOfLeft target number may_be_open before image) now
begins-leave left either bodies target number may_be_open root held before now keeps begins image is =
    elim (keeps-images left either bodies target number may_be_open root held now (begins-keeps target number may_be_open root held before now keeps begins) image is) [
      | inl old ↦ inl (subst (λ (meaning : Meaning). IsImageOf meaning image) (begins-says target number may_be_open root held before now keeps begins) old)
      | inr was ↦ inr (of_left-before target number may_be_open before now image keeps.stands.slot begins.same.bytes begins.failed begins.pages was)
    ]

-- the gate is known to be closed
pub keeps-closed : (target number : ℕ) (may_be_open : Bool) (root : RootFields) (held : Option RootFields) (now : State)
    → Keeps target number may_be_open root held now → Stands target number false now → Keeps target number false root held now
keeps-closed target number may_be_open root held now keeps stands = record {
  stands = stands;
  formatted = keeps.formatted;
  spelled = keeps.spelled;
  kept = keeps.kept;
  left = λ flag. absurd (false≢true flag);
}

pub closed-leave : LeftPages → EitherBody → OpenBodies → (target number : ℕ) (root : RootFields) (held : Option RootFields) (now : State)
    → Keeps target number false root held now → Leaves (IsImageOf (stored_in now root held)) now
closed-leave left either bodies target number root held now keeps image is =
    elim (keeps-images left either bodies target number false root held now keeps image is) [ inl old ↦ old | inr was ↦ absurd (false≢true was.0) ]

-- puts into blocks that aren't reached
pub among-stay : (puts : List ℕ) (target number : ℕ) (page : ℕ → List ℕ) (root : RootFields) (held : Option RootFields) (before now : State)
    → IsWholeRoot page root held → AllByRecursion (IsNone puts) (reached root held) → PutsAmong puts target number before now → Stay root held before now
among-stay puts target number page root held before now whole apart went =
    let lies = reached-lies page root held whole in
    record {
      size = went.size;
      same = all_with (LiesIn root) (IsNone puts) (λ block. page_of block before.seen ≡ page_of block now.seen) (reached root held)
          (λ block lies none. sym (went.pages.seen block lies.0 none)) lies apart;
      durable = all_with (LiesIn root) (IsNone puts) (λ block. IsDurable block before → IsDurable block now) (reached root held)
          (λ block lies none. went.pages.durable block lies.0 none) lies apart;
    }

pub among-keeps : (puts : List ℕ) (target number : ℕ) (root : RootFields) (held : Option RootFields) (before now : State)
    → Keeps target number false root held before → AllByRecursion (IsNone puts) (reached root held) → PutsAmong puts target number before now
    → Keeps target number false root held now
among-keeps puts target number root held before now keeps apart went = record {
  stands = went.stands;
  formatted = keeps.formatted;
  spelled = went.kept.holds ∙ keeps.spelled;
  kept = kept-stays root held before now (among-stay puts target number (pages_in before.seen) root held before now keeps.kept.whole apart went) keeps.kept;
  left = λ flag. absurd (false≢true flag);
}
