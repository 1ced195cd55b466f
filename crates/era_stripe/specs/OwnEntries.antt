-- What each entry of a stripe asks of the stripe's entries before it: the model's condition, as far as own entries tell.
use Rattle.std.specs.Prelude.{◌≡◌, ℕ, ◌+◌, ◌*◌, ◌/◌, ◌%◌, ◌<◌, Bool, true, false, List, [], ◌∷◌, length, slice_index, Some}
use Rattle.era_gate.specs.ModelLaw.{GoIsLeft}
use Rattle.era_model.specs.declared.event.Event.{Event}
use Rattle.era_model.specs.declared.event.Event.TheVariants.{Go, Done, Cut, Settle, Unsettled, Read, Refused}
use Rattle.era_model.specs.declared.event.Why.TheVariants.{DataFault}
use Rattle.era_model.specs.declared.history.Happening.{Happening}
use Rattle.era_model.specs.declared.opening.Opening.{Opening}
use Rattle.era_model.specs.Conditions.{MaySettle}
use Rattle.era_model.specs.History.{content, in_flight}
use Rattle.era_model.specs.SessionRun.{place_now}
use Rattle.era_model.specs.Writes.{is_writing, is_cut, is_cut_at}
use Rattle.era_notes.specs.Notes.{Note, own_history}
use Rattle.era_notes.specs.Parts.{Part, IsIn}

-- A write is issued to a block of the part, of whole sectors of it, while none is in flight.
pub record OwnGo (part : Part) (h : List Happening) (block first : ℕ) (bytes : List ℕ) : Type 0 where
  pub alone : in_flight h ≡ []
  pub of_part : IsIn part block
  pub left : GoIsLeft h block first bytes

-- A read gives the content of its block, which is one of the part's, and any bytes in the ranges of cut writes. Of a disk that doesn't tell its content nothing is said of the bytes.
pub record OwnRead (tells : Bool) (part : Part) (h : List Happening) (sector : ℕ) (bytes : List ℕ) : Type 0 where
  pub block : ℕ
  pub first : ℕ
  pub of_part : IsIn part block
  pub whole : length bytes % 512 ≡ 0
  pub place : place_now h sector (length bytes / 512) ≡ Some (block, first)
  pub same : tells ≡ true → (offset : ℕ) → offset < length bytes → is_cut_at (in_flight h) block (first * 512 + offset) ≡ false
      → slice_index bytes offset ≡ slice_index (content h block) (first * 512 + offset)

-- A stripe's entry may follow its entries so far. A refusal is one of a fault of this very part.
abbrev pub OwnMay : Bool → Part → ℕ → List Happening → Event → Type 0
OwnMay tells part index h (Go id block era first bytes) = OwnGo part h block first bytes
OwnMay tells part index h (Done id) = is_writing (in_flight h) id ≡ true
OwnMay tells part index h (Cut id faults) = is_writing (in_flight h) id ≡ true
OwnMay tells part index h (Settle by cut bytes) = MaySettle h cut bytes
OwnMay tells part index h (Unsettled by cut faults) = is_cut (in_flight h) cut ≡ true
OwnMay tells part index h (Read id sector bytes) = OwnRead tells part h sector bytes
OwnMay tells part index h (Refused id kind (DataFault stripe count)) = stripe ≡ index
OwnMay tells part index h event = ⊥

-- Each entry may follow those before it.
abbrev pub AreOwnLegal : Bool → Part → ℕ → Opening → List Note → Type 0
AreOwnLegal tells part index opening [] = Unit {0}
AreOwnLegal tells part index opening (note ∷ earlier) =
    OwnMay tells part index (own_history opening earlier) note.entry.event × AreOwnLegal tells part index opening earlier
