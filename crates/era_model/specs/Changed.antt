-- Which blocks changed since an era, and what it is that marks cover the changes.
use Rattle.std.specs.Prelude.{◌≡◌, ◌≢◌, ℕ, ◌<◌, true, false, List, length, slice_index, Some}
use Rattle.era_model.specs.declared.history.Happening.{Happening}
use Rattle.era_model.specs.Marks.{BlockMarks, written_since}
use Rattle.era_model.specs.Writes.{is_written_at}
use Rattle.era_model.specs.History.{blocks_now, content, in_flight}
use Rattle.era_model.specs.Marking.{era_start}

-- What a crash may leave of a block: its content, with any bytes in the ranges of writes in flight.
pub record IsCrashContent (h : List Happening) (block : ℕ) (image : List ℕ) : Type 0 where
  pub size : length image ≡ length (content h block)
  pub same : (offset : ℕ) → is_written_at (in_flight h) block offset ≡ false → slice_index image offset ≡ slice_index (content h block) offset

-- A block that may read so has changed since the era: the era has begun, and the bytes differ from the block's content when it began.
pub record IsChangedSince (h : List Happening) (era block : ℕ) (image : List ℕ) : Type 0 where
  pub start : List Happening
  pub begun : era_start era h ≡ Some start
  pub possible : IsCrashContent h block image
  pub differs : image ≢ content start block

-- Marks cover the changes of contents from a base, since an era: each block that they don't list has the base's content.
abbrev pub CoversChanges : BlockMarks → ℕ → ℕ → (ℕ → List ℕ) → (ℕ → List ℕ) → Type 0
CoversChanges m blocks era base contents =
    (block : ℕ) → block < blocks → written_since m era block ≡ false → contents block ≡ base block

-- Marks list each block that has changed since the era, whatever a crash may leave of it.
abbrev pub ListsChanges : List Happening → BlockMarks → ℕ → Type 0
ListsChanges h m era =
    (block : ℕ) (image : List ℕ) → block < blocks_now h → IsChangedSince h era block image → written_since m era block ≡ true
