-- The number that the program ends with.
use Rattle.std.specs.Prelude.{◌≡◌, ℕ, ◌<◌, ◌≤◌, List, All, Option, Some}
use Rattle.era_base.specs.declared.disk.Disk.{Ghosts}
use Rattle.era_base.specs.Faults.{Rose}
use Rattle.era_base.specs.Geometry.{IsBlockSize, blocks_of}
use Rattle.era_base.specs.declared.limits.TheConstants.{MOST_BLOCKS}
use Rattle.era_line.specs.declared.table_line.TableLine.{TableLine}
use Rattle.era_plan.specs.Stream.{AtEnd, stream_rounds}
use Rattle.era_tools.specs.declared.status.Status.{Status}
use Rattle.era_tools.specs.Around.{BayAround}
use Rattle.era_tools.specs.Printing.{number_of}
use Rattle.era_top.specs.Around.{StreamsAround}
use Rattle.era_top.specs.Reports.{Reports}
use Rattle.era_top.specs.Runs.{IsServedCommand}
use Rattle.era_top.specs.Words.{IsServe}

-- A number is one that the program ends with: 0 to 8.
abbrev pub IsNumber : ℕ → Type 0
IsNumber number = number ≤ 8

-- The number 8 comes exactly with a failure of the sink: its count of faults rose, and with any other number it is as before.
pub record EndsBySink (before now number : ℕ) : Type 0 where
  pub rose : number ≡ 8 → Rose before now
  pub kept : (number ≡ 8 → ⊥) → now ≡ before

-- A call went so, where the origin had these contents, and the program ends with the number of the status.
pub record EndsAs {D : Type 0} (words : List (List ℕ)) (contents : List ℕ) (disks : Ghosts D) (bay : BayAround D)
    (streams : StreamsAround) (number : ℕ) : Type 0 where
  pub status : Status
  pub reports : Reports words contents disks bay streams status
  pub told : number_of status ≡ number

-- Nothing that a call is given is refused: the words are a serve command of a geometry, the origin isn't told to be smaller than it, and the stream has rounds of served commands alone, up to its end.
pub record IsServable (words : List (List ℕ)) (sizes : List ℕ → Option ℕ) (left : Option (List ℕ)) : Type 0 where
  pub line : TableLine
  pub serve : IsServe words line
  pub block_size : IsBlockSize line.block_sectors
  pub some : 0 < line.length
  pub limited : blocks_of line.length line.block_sectors ≤ MOST_BLOCKS
  pub large_enough : (have : ℕ) → sizes line.origin ≡ Some have → line.length ≤ have
  pub text : List ℕ
  pub stream : left ≡ Some text
  pub ends : (stream_rounds text).end ≡ AtEnd
  pub served : All (All IsServedCommand) (stream_rounds text).rounds
