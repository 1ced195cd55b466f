-- What sectors were at the last sync, and what a crash leaves of pending ones.
use Rattle.std.specs.Prelude.{⊤, ◌≡◌, ℕ, ◌<◌, Bool, true, false, List, [], ◌∷◌, length, replicate, slice_index, Option, Some, None}
use Rattle.era_base.specs.CrashModel.{State, is_pending}
use Rattle.era_disks.specs.declared.tear.Tear.{Tear}
use Rattle.era_disks.specs.declared.tear.Tear.TheVariants.{Keep, Old, Fill}

-- The row of a sector at the last sync: of a pending one what was kept of it, where something was.
abbrev pub synced_row : Bool → Option (List ℕ) → List ℕ → List ℕ
synced_row false kept row = row
synced_row true None row = row
synced_row true (Some old) row = old

-- The rows of sectors at the last sync.
abbrev pub synced_rows : List Bool → List (Option (List ℕ)) → List (List ℕ) → List (List ℕ)
synced_rows [] kept rows = []
synced_rows (flag ∷ flags) [] rows = []
synced_rows (flag ∷ flags) (old ∷ kept) [] = []
synced_rows (flag ∷ flags) (old ∷ kept) (row ∷ rows) = synced_row flag old row ∷ synced_rows flags kept rows

-- The row of a sector after a crash.
abbrev pub torn_row : Tear → Bool → Option (List ℕ) → List ℕ → List ℕ
torn_row tear false kept row = row
torn_row Keep true kept row = row
torn_row Old true kept row = synced_row true kept row
torn_row (Fill byte) true kept row = replicate 512 byte

-- The rows of sectors after a crash.
abbrev pub torn_rows : Tear → List Bool → List (Option (List ℕ)) → List (List ℕ) → List (List ℕ)
torn_rows tear [] kept rows = []
torn_rows tear (flag ∷ flags) [] rows = []
torn_rows tear (flag ∷ flags) (old ∷ kept) [] = []
torn_rows tear (flag ∷ flags) (old ∷ kept) (row ∷ rows) = torn_row tear flag old row ∷ torn_rows tear flags kept rows

-- The rows of sectors that aren't pending have stayed.
abbrev pub KeepsClean : List Bool → List (List ℕ) → List (List ℕ) → Type 0
KeepsClean [] rows after = after ≡ rows
KeepsClean (flag ∷ flags) [] after = after ≡ []
KeepsClean (flag ∷ flags) (row ∷ rows) [] = ⊥
KeepsClean (flag ∷ flags) (row ∷ rows) (now ∷ after) = (flag ≡ false → now ≡ row) × KeepsClean flags rows after

-- In an image all bytes of pending sectors are this byte.
abbrev pub IsFilled : ℕ → State → List ℕ → Type 0
IsFilled byte state image = (offset : ℕ) → offset < length state.seen → is_pending state offset ≡ true → slice_index image offset ≡ byte

-- A tear for which memory may be refused: only the one that fills pending sectors.
abbrev pub TakesMemory : Tear → Type 0
TakesMemory Keep = ⊥
TakesMemory Old = ⊥
TakesMemory (Fill byte) = ⊤
