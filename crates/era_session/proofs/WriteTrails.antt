-- The entries of a write in their order: the resolution of an earlier write, those of the mark, and the write's own.
use Rattle.std.proofs.Common.{◌≡◌, ℕ, Bool, true, false, List, [], ◌∷◌, ◌++◌, length, Option, Some, None, Result, Ok, Err, refl, sym, ap, ◌∙◌, subst, arith}
use Rattle.std.proofs.lemmas.List.{append-nil}
use Rattle.std.specs.Prelude.{if◌then◌else◌}
use Rattle.era_base.specs.declared.ids.CmdId.{CmdId}
use Rattle.era_model.specs.declared.entry.Entry.{Entry}
use Rattle.era_model.specs.declared.event.Event.{Event}
use Rattle.era_model.specs.declared.event.Event.TheVariants.{Cut, Done, Go, Settle}
use Rattle.era_session.specs.Chunks.{resolves, write_trail}
use Rattle.era_session.specs.Receipts.{events_in}
use Rattle.era_session.specs.Writes.{IsSettling}
use Rattle.era_session.proofs.Receipts.{no-entries}
use Rattle.era_stripe.specs.Results.{write_events}
use Rattle.era_stripe.specs.declared.cut_write.CutWrite.{CutWrite}

-- the first of some events
abbrev first-or : Event → List Event → Event
first-or event [] = event
first-or event (other ∷ events) = other

-- the first of some entries resolves nothing
abbrev pub Begins : List Entry → Type 0
Begins [] = Unit {0}
Begins (e ∷ rest) = resolves e.event ≡ false

-- entries that begin so are behind those of the keeper
trail-else : (e : Entry) (rest marks : List Entry) (is : Bool) → is ≡ false → (if is then e ∷ (marks ++ rest) else marks ++ e ∷ rest) ≡ marks ++ e ∷ rest
trail-else e rest marks is unlike = rw unlike refl

trail-then : (e : Entry) (rest marks : List Entry) (is : Bool) → is ≡ true → (if is then e ∷ (marks ++ rest) else marks ++ e ∷ rest) ≡ e ∷ (marks ++ rest)
trail-then e rest marks is like = rw like refl

pub trail-behind : (own marks : List Entry) → Begins own → write_trail own marks ≡ marks ++ own
trail-behind [] marks begins = sym (append-nil marks)
trail-behind (e ∷ rest) marks begins = trail-else e rest marks (resolves e.event) begins

-- entries of events whose first resolves nothing
pub begins-so : (own : List Entry) (event : Event) (events : List Event) → events_in own ≡ event ∷ events → resolves event ≡ false → Begins own
begins-so [] event events are unlike = tt
begins-so (e ∷ rest) event events are unlike = ap (λ (es : List Event). resolves (first-or e.event es)) are ∙ unlike

-- a resolution is before the keeper's, and the others behind
trail-settled : (settled own marks : List Entry) (by cut : CmdId) (bytes : List ℕ) → events_in settled ≡ Settle by cut bytes ∷ [] → Begins own → write_trail (settled ++ own) marks ≡ settled ++ marks ++ own
trail-settled [] own marks by cut bytes are begins = trail-behind own marks begins
trail-settled (e ∷ []) own marks by cut bytes are begins = trail-then e own marks (resolves e.event) (ap (λ (es : List Event). resolves (first-or e.event es)) are)
trail-settled (e ∷ other ∷ more) own marks by cut bytes are begins = absurd (let size = ap (λ (es : List Event). length es) are in omega (arith, size))

pub write-ordered : (cut : Option CutWrite) (by : CmdId) (before : List Event) (settled own marks : List Entry) → IsSettling cut by before → events_in settled ≡ before → Begins own
    → write_trail (settled ++ own) marks ≡ settled ++ marks ++ own
write-ordered None by before settled own marks settling are begins =
    let none = no-entries settled (are ∙ settling) in
    subst (λ (es : List Entry). write_trail (es ++ own) marks ≡ es ++ marks ++ own) (sym none) (trail-behind own marks begins)
write-ordered (Some cut) by before settled own marks settling are begins = trail-settled settled own marks by cut.id settling.0 (are ∙ settling.2) begins

-- a write's own events begin so
pub written-begins : (id : CmdId) (block era first : ℕ) (bytes : List ℕ) (result : Result Unit ℕ) (own : List Entry) → events_in own ≡ write_events id block era first bytes result → Begins own
written-begins id block era first bytes (Ok value) own are = begins-so own (Go id block era first bytes) (Done id ∷ []) are refl
written-begins id block era first bytes (Err count) own are = begins-so own (Go id block era first bytes) (Cut id count ∷ []) are refl
