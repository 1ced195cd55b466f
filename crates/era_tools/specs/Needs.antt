-- What a need command answers.
use Rattle.std.specs.Prelude.{◌≡◌, ℕ, ◌<◌, ◌≤◌, List, Option}
use Rattle.era_base.specs.declared.geometry.GeomError.{GeomError}
use Rattle.era_base.specs.declared.geometry.GeomError.TheVariants.{BadBlockSize, NoBlocks, TooManyBlocks}
use Rattle.era_base.specs.declared.limits.TheConstants.{MOST_BLOCKS}
use Rattle.era_base.specs.Geometry.{IsBlockSize, blocks_of, need_of}
use Rattle.era_tools.specs.declared.status.Status.{Status}
use Rattle.era_tools.specs.declared.status.Status.TheVariants.{Done, Refused}
use Rattle.era_tools.specs.Printing.{Prints}
use Rattle.era_tools.specs.Refusals.{geometry_text}
use Rattle.era_tools.specs.ToolLines.{need_line}

-- A length and a block size are a geometry.
pub record AreGeometry (sectors size : ℕ) : Type 0 where
  pub block_size : IsBlockSize size
  pub some : 0 < sectors
  pub limited : blocks_of sectors size ≤ MOST_BLOCKS

-- A length and a block size are no geometry for this reason: the first that there is of a bad block size, no sector and too many blocks.
abbrev pub IsNoGeometry : GeomError → ℕ → ℕ → Type 0
IsNoGeometry BadBlockSize sectors size = ¬ IsBlockSize size
IsNoGeometry NoBlocks sectors size = IsBlockSize size × (sectors ≡ 0)
IsNoGeometry (TooManyBlocks count) sectors size = IsBlockSize size × (count ≡ blocks_of sectors size) × (MOST_BLOCKS < count)

-- A need command tells the metadata blocks that a geometry needs, or why there is none.
pub data Needed : Type 0 where
  Blocks : (count : ℕ) → Needed
  NoGeometry : (error : GeomError) → Needed

-- What is told is so of a length and a block size.
abbrev pub IsNeeded : ℕ → ℕ → Needed → Type 0
IsNeeded sectors size (Blocks count) = AreGeometry sectors size × (count ≡ need_of (blocks_of sectors size))
IsNeeded sectors size (NoGeometry error) = IsNoGeometry error sectors size

-- Its line.
abbrev pub needed_text : ℕ → Needed → List ℕ
needed_text size (Blocks count) = need_line count
needed_text size (NoGeometry error) = geometry_text error size

-- The status that it ends with.
abbrev pub needed_status : Needed → Status
needed_status (Blocks count) = Done
needed_status (NoGeometry error) = Refused

-- A need command went so: what it tells is so, and its line was given.
pub record TellsNeed (sectors size : ℕ) (given given' : Option (List ℕ)) (result : Status) : Type 0 where
  pub told : Needed
  pub right : IsNeeded sectors size told
  pub printed : Prints given given' (needed_text size told) (needed_status told) result
