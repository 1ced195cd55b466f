-- Moments and places of a stripe that stands are in order.
use Rattle.std.proofs.Common.{◌≡◌, ℕ, ◌+◌, ◌<◌, ◌≤◌, Bool, true, List, [], ◌∷◌, ◌++◌, arith, sym, ◌∙◌, subst}
use Rattle.std.specs.Prelude.{All}
use Rattle.std.proofs.lemmas.List.Elements.{All-nil, All-cons, All-head, All-tail}
use Rattle.era_base.specs.CrashModel.{clock}
use Rattle.era_gate.specs.Places.{AscendFrom}
use Rattle.era_model.specs.declared.entry.Entry.{Entry}
use Rattle.era_model.specs.declared.opening.Opening.{Opening}
use Rattle.era_notes.specs.Notes.{Note, own_history, entries_of, PlacesBelow}
use Rattle.era_notes.specs.Parts.{HoldsContent}
use Rattle.era_notes.specs.Windows.{AreOrdered}
use Rattle.era_notes.proofs.Windows.{through-ordered}
use Rattle.era_stripe.specs.Stripes.{StripeView, ViewStands}

-- all entries are below a place
abbrev AreBelow : ℕ → List Entry → Type 0
AreBelow bound es = All (λ (e : Entry). e.place < bound) es

-- the last of ascending entries is above the others, and below a bound of all
last-above : (first : ℕ) (es : List Entry) (last : Entry) → AscendFrom first (es ++ last ∷ []) → first ≤ last.place
last-above first [] last ascend = ascend.0
last-above first (e ∷ es) last ascend =
    let low : first ≤ e.place = ascend.0 in
    let rest = last-above (e.place + 1) es last ascend.1 in
    omega (arith, low, rest)

others-below : (first : ℕ) (es : List Entry) (last : Entry) → AscendFrom first (es ++ last ∷ []) → AreBelow last.place es
others-below first [] last ascend = All-nil (λ (e : Entry). e.place < last.place)
others-below first (e ∷ es) last ascend =
    let next = last-above (e.place + 1) es last ascend.1 in
    All-cons (λ (x : Entry). x.place < last.place) e es (omega (arith, next)) (others-below (e.place + 1) es last ascend.1)

others-ascend : (first : ℕ) (es : List Entry) (last : Entry) → AscendFrom first (es ++ last ∷ []) → AscendFrom first es
others-ascend first [] last ascend = tt
others-ascend first (e ∷ es) last ascend = (ascend.0, others-ascend (e.place + 1) es last ascend.1)

last-below : (bound : ℕ) (es : List Entry) (last : Entry) → AreBelow bound (es ++ last ∷ []) → last.place < bound
last-below bound [] last below = All-head (λ (x : Entry). x.place < bound) last [] below
last-below bound (e ∷ es) last below = last-below bound es last (All-tail (λ (x : Entry). x.place < bound) e (es ++ last ∷ []) below)

-- so places descend from the latest note on
places-below : (bound : ℕ) (notes : List Note) → AscendFrom 0 (entries_of notes) → AreBelow bound (entries_of notes) → PlacesBelow bound notes
places-below bound [] ascend below = tt
places-below bound (note ∷ earlier) ascend below = (
  last-below bound (entries_of earlier) note.entry below,
  places-below note.entry.place earlier (others-ascend 0 (entries_of earlier) note.entry ascend) (others-below 0 (entries_of earlier) note.entry ascend),
)

pub stripes-ordered : (tells : Bool) (opening : Opening) (view : StripeView) (bound : ℕ) → ViewStands tells opening view → tells ≡ true → AreBelow bound view.entries
    → AreOrdered view.begun (clock view.history) bound view.notes
stripes-ordered tells opening view bound stands told below =
    through-ordered (λ notes. HoldsContent view.part (own_history opening notes)) view.history view.begun (clock view.history) bound view.notes (stands.through told)
    (places-below bound view.notes (subst (AscendFrom 0) (sym stands.entries) stands.places) (subst (AreBelow bound) (stands.kept ∙ sym stands.entries) below))
