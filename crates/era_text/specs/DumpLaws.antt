-- What holds of dumps: they are read back as what they spell, marks have one dump, and merging keeps what was marked last.
use Rattle.std.specs.Prelude.{◌≡◌, ℕ, true, List}
use Rattle.era_line.specs.Lines.{lines_of}
use Rattle.era_model.specs.Marks.{BlockMarks, marks_last_era}
use Rattle.era_model.specs.Merging.{merged_marks}
use Rattle.era_model.specs.Validity.{AreValidMarks}
use Rattle.era_text.specs.Dumps.{AreOfImage, IsDumpOf, ReadAs, dumped_marks}

-- The text of the dump of valid marks is read as these marks.
abbrev pub DumpsReadBack : Type 0
DumpsReadBack = (m : BlockMarks) (text : List ℕ) → AreOfImage m → AreValidMarks m → IsDumpOf m text → ReadAs (lines_of text) m

-- Lines are read as the same marks, whenever they are read.
abbrev pub ReadOneWay : Type 0
ReadOneWay = (lines : List (List ℕ)) (m other : BlockMarks) → ReadAs lines m → ReadAs lines other → other ≡ m

-- Marks have one dump.
abbrev pub HaveOneDump : Type 0
HaveOneDump = (m : BlockMarks) (text other : List ℕ) → IsDumpOf m text → IsDumpOf m other → other ≡ text

-- Marks whose archived sets were merged into the era array.
pub record AreMerged (m : BlockMarks) : Type 0 where
  pub valid : AreValidMarks (merged_marks m)
  pub lasts : (block : ℕ) → marks_last_era (merged_marks m) block ≡ marks_last_era m block

-- Merging keeps valid marks valid, and the last marked era of each block.
abbrev pub MergingKeepsLasts : Type 0
MergingKeepsLasts = (m : BlockMarks) → AreValidMarks m → AreMerged m

-- The text of the logical dump of valid marks is read as the merged marks.
abbrev pub LogicalDumpsReadBack : Type 0
LogicalDumpsReadBack =
    (m : BlockMarks) (text : List ℕ) → AreOfImage m → AreValidMarks m → IsDumpOf (dumped_marks m true) text → ReadAs (lines_of text) (merged_marks m)

-- Marks that were read: they are valid, and their numbers are those of a metadata image.
pub record AreReadable (m : BlockMarks) : Type 0 where
  pub valid : AreValidMarks m
  pub image : AreOfImage m

-- What lines are read as are valid marks.
abbrev pub ReadMarksAreValid : Type 0
ReadMarksAreValid = (lines : List (List ℕ)) (m : BlockMarks) → ReadAs lines m → AreReadable m
