-- Which text is the dump of marks, and which marks lines are read as.
use Rattle.std.specs.Prelude.{◌≡◌, ℕ, ◌<◌, ◌^◌, Bool, true, List, [], ◌∷◌, if◌then◌else◌}
use Rattle.era_line.specs.Lines.{lines_text}
use Rattle.era_base.specs.Runs.{AreRuns}
use Rattle.era_base.specs.Geometry.{blocks_of}
use Rattle.era_model.specs.declared.marked_set.MarkedSet.{MarkedSet}
use Rattle.era_model.specs.EraRuns.{AreEraRuns}
use Rattle.era_model.specs.MarkRuns.{AreWithin, eras_of_runs, flags_of_runs, sets_of_runs}
use Rattle.era_model.specs.Marks.{BlockMarks, blocks_of_marks}
use Rattle.era_model.specs.Merging.{merged_marks}
use Rattle.era_text.specs.DumpLines.{dump_lines}
use Rattle.era_text.specs.FirstLine.{Head, is_geometry}
use Rattle.era_text.specs.Grammar.{Whole, dump_end}
use Rattle.era_text.specs.declared.reading.Reading.{Reading}

-- The runs of each of the archived sets are maximal.
abbrev pub AreSetRuns : List MarkedSet → Type 0
AreSetRuns [] = Unit {0}
AreSetRuns (set ∷ sets) = AreRuns set.blocks × AreSetRuns sets

-- The marks that lists of runs are, block by block.
abbrev pub listed_marks : ℕ → ℕ → ℕ → List (ℕ × ℕ × ℕ) → List MarkedSet → List (ℕ × ℕ) → BlockMarks
listed_marks sectors size era array archive current = record {
  sectors = sectors;
  block_sectors = size;
  era = era;
  array = eras_of_runs 0 (blocks_of sectors size) array;
  archive = sets_of_runs (blocks_of sectors size) archive;
  current = flags_of_runs 0 (blocks_of sectors size) current;
}

-- Lists are the maximal runs of marks: of the era array, of the archived sets, and of the current set.
pub record AreRunsOf (m : BlockMarks) (array : List (ℕ × ℕ × ℕ)) (archive : List MarkedSet) (current : List (ℕ × ℕ)) : Type 0 where
  pub array_maximal : AreEraRuns array
  pub sets_maximal : AreSetRuns archive
  pub current_maximal : AreRuns current
  pub within : AreWithin (blocks_of_marks m) array archive current
  pub same : m ≡ listed_marks m.sectors m.block_sectors m.era array archive current

-- Lines are those of the dump of marks.
pub record AreDumpLines (m : BlockMarks) (lines : List (List ℕ)) : Type 0 where
  pub array : List (ℕ × ℕ × ℕ)
  pub archive : List MarkedSet
  pub current : List (ℕ × ℕ)
  pub runs : AreRunsOf m array archive current
  pub spelled : lines ≡ dump_lines m.sectors m.block_sectors m.era array archive current

-- A text is the dump of marks.
pub record IsDumpOf (m : BlockMarks) (text : List ℕ) : Type 0 where
  pub lines : List (List ℕ)
  pub are : AreDumpLines m lines
  pub joined : text ≡ lines_text lines

-- The marks that a dump spells: the marks as they are, or for the logical dump with the archived sets merged into the era array.
abbrev pub dumped_marks : BlockMarks → Bool → BlockMarks
dumped_marks m logical = if logical then merged_marks m else m

-- The marks of what was read.
abbrev pub marks_read : Head → Reading → BlockMarks
marks_read head reading = listed_marks head.sectors head.block_sectors head.era reading.array reading.archive reading.blocks

-- Lines are read as marks.
pub record ReadAs (lines : List (List ℕ)) (m : BlockMarks) : Type 0 where
  pub head : Head
  pub reading : Reading
  pub whole : dump_end lines ≡ Whole head reading
  pub same : m ≡ marks_read head reading

-- The numbers of marks are those of a metadata image: a geometry and an era of 32 bits.
pub record AreOfImage (m : BlockMarks) : Type 0 where
  pub geometry : is_geometry m.sectors m.block_sectors ≡ true
  pub sectors_fit : m.sectors < 2 ^ 64
  pub era_fits : m.era < 2 ^ 32
