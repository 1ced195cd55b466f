-- Parts: a range of blocks on a disk of its own, and what the disk holds of them.
use Rattle.std.specs.Prelude.{◌≡◌, ℕ, ◌+◌, ◌-◌, ◌*◌, ◌/◌, ◌%◌, ◌<◌, ◌≤◌, false, List, length, slice_index, min, Some}
use Rattle.era_base.specs.CrashModel.{State, Leaves, is_pending}
use Rattle.era_base.specs.Geometry.{place_at}
use Rattle.era_base.specs.declared.geometry.Geometry.{Geometry}
use Rattle.era_model.specs.declared.history.Happening.{Happening}
use Rattle.era_model.specs.Changed.{IsCrashContent}
use Rattle.era_model.specs.History.{content, in_flight}
use Rattle.era_model.specs.Writes.{block_bytes, is_written_at}
use Rattle.era_model.specs.declared.flight.FlightWrite.{FlightWrite}

-- So many blocks of so many sectors each, from one block on. The disk begins with the first of them.
pub record Part : Type 0 where
  pub first : ℕ
  pub blocks : ℕ
  pub size : ℕ

-- A block is one of the part's.
pub record IsIn (part : Part) (block : ℕ) : Type 0 where
  pub low : part.first ≤ block
  pub high : block < part.first + part.blocks

-- Where a byte of a block stands on the part's disk.
abbrev pub offset_in : Part → ℕ → ℕ → ℕ
offset_in part block offset = (block - part.first) * (part.size * 512) + offset

-- The sector of the part's disk that is a sector of a block.
abbrev pub sector_in : Part → ℕ → ℕ → ℕ
sector_in part block first = (block - part.first) * part.size + first

-- The bytes of a block on the part's disk. The last block may be short.
abbrev pub bytes_in : Part → List ℕ → ℕ → List ℕ
bytes_in part bytes block = block_bytes part.size bytes (block - part.first)

-- How many sectors a part of these blocks has.
abbrev pub part_sectors : Geometry → ℕ → ℕ → ℕ
part_sectors geometry first blocks = min (blocks * geometry.block_sectors) (geometry.sectors - first * geometry.block_sectors)

-- So many bytes are some whole sectors of a block, from one of its sectors on.
pub record IsPlace (geometry : Geometry) (block first count : ℕ) : Type 0 where
  pub some : 0 < count
  pub whole : count % 512 ≡ 0
  pub place : place_at geometry.sectors geometry.block_sectors (block * geometry.block_sectors + first) (count / 512) ≡ Some (block, first)
  pub in_block : first * 512 + count ≤ geometry.block_sectors * 512
  pub within : (block * geometry.block_sectors + first) * 512 + count ≤ geometry.sectors * 512

-- A byte stands there, and its sector isn't pending.
pub record HasByte (at byte : ℕ) (state : State) : Type 0 where
  pub same : slice_index state.seen at ≡ byte
  pub clean : is_pending state at ≡ false

-- The part has this content of its blocks, but for the bytes of these writes.
pub record HoldsBut (part : Part) (contents : ℕ → List ℕ) (writes : List FlightWrite) (state : State) : Type 0 where
  pub sizes : (block : ℕ) → IsIn part block → length (contents block) ≡ length (bytes_in part state.seen block)
  pub bytes : (block offset : ℕ) → IsIn part block → offset < length (contents block) → is_written_at writes block offset ≡ false
      → HasByte (offset_in part block offset) (slice_index (contents block) offset) state

-- The part has the content of its blocks by a history, but for the bytes of the writes in flight.
abbrev pub HoldsContent : Part → List Happening → State → Type 0
HoldsContent part h state = HoldsBut part (content h) (in_flight h) state

-- Each crash image of the part is, block by block, something that a crash may leave of the content by a history.
abbrev pub LeavesContent : Part → List Happening → State → Type 0
LeavesContent part h state =
    Leaves (λ image. (block : ℕ) → IsIn part block → IsCrashContent h block (bytes_in part image block)) state
