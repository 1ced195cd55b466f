-- The lines that the tools print. Each ends with an LF.
use Rattle.std.specs.Prelude.{ℕ, ◌+◌, ◌-◌, List, [], ◌∷◌, ◌++◌, codes, decimal, sum_by}
use Rattle.std.specs.List.{flat_map}
use Rattle.era_base.specs.declared.geometry.Geometry.{Geometry}
use Rattle.era_layout.specs.declared.damage.DamageKind.{DamageKind}
use Rattle.era_layout.specs.declared.damage.DamageKind.TheVariants as damage
use Rattle.era_model.specs.Transcript.{run_text}
use Rattle.era_text.specs.declared.dump_kind.DumpKind.{DumpKind}
use Rattle.era_text.specs.declared.dump_kind.DumpKind.TheVariants as dump

-- The word of a damage.
abbrev pub damage_word : DamageKind → List ℕ
damage_word damage.BadSequence = codes "BadSequence"
damage_word damage.SequenceTie = codes "SequenceTie"
damage_word damage.BadMagic = codes "BadMagic"
damage_word damage.BadVersion = codes "BadVersion"
damage_word damage.BadGeometry = codes "BadGeometry"
damage_word damage.BadEra = codes "BadEra"
damage_word damage.BadHeld = codes "BadHeld"
damage_word damage.ArchiveOrder = codes "ArchiveOrder"
damage_word damage.PageRange = codes "PageRange"
damage_word damage.PageTwice = codes "PageTwice"
damage_word damage.TailNotZero = codes "TailNotZero"
damage_word damage.EntryPastEnd = codes "EntryPastEnd"
damage_word damage.EraFuture = codes "EraFuture"
damage_word damage.BitPastEnd = codes "BitPastEnd"
damage_word damage.HeldGeometry = codes "HeldGeometry"

-- The word of the kind of a refused line of a dump.
abbrev pub dump_kind_word : DumpKind → List ℕ
dump_kind_word dump.Truncated = codes "Truncated"
dump_kind_word dump.LongLine = codes "LongLine"
dump_kind_word dump.Unknown = codes "Unknown"
dump_kind_word dump.BadNumber = codes "BadNumber"
dump_kind_word dump.BadGeometry = codes "BadGeometry"
dump_kind_word dump.PastEnd = codes "PastEnd"
dump_kind_word dump.Order = codes "Order"
dump_kind_word dump.BadEra = codes "BadEra"
dump_kind_word dump.TooManySets = codes "TooManySets"
dump_kind_word dump.Trailing = codes "Trailing"

-- A word, and a number behind it.
abbrev pub number_line : List ℕ → ℕ → List ℕ
number_line word number = word ++ (decimal number ++ 10 ∷ [])

-- A word, and two numbers behind it.
abbrev pub numbers_line : List ℕ → ℕ → ℕ → List ℕ
numbers_line word first second = word ++ (decimal first ++ (codes " " ++ (decimal second ++ 10 ∷ [])))

-- A word, and a kind with a number behind it.
abbrev pub kind_line : List ℕ → List ℕ → ℕ → List ℕ
kind_line word kind number = word ++ (kind ++ (codes " " ++ (decimal number ++ 10 ∷ [])))

-- How many metadata blocks an origin needs.
abbrev pub need_line : ℕ → List ℕ
need_line blocks = number_line (codes "need ") blocks

-- What a check tells of an image without damage: its era, and how many metadata blocks it uses.
abbrev pub clean_line : ℕ → ℕ → List ℕ
clean_line era used = numbers_line (codes "clean ") era used

-- What a check tells of one with a damage: the first one, and the metadata block where it stands.
abbrev pub damage_line : DamageKind → ℕ → List ℕ
damage_line kind block = kind_line (codes "damage ") (damage_word kind) block

-- The era of a restored image.
abbrev pub restored_line : ℕ → List ℕ
restored_line era = number_line (codes "restored ") era

-- How many blocks of a backup were written.
abbrev pub applied_line : ℕ → List ℕ
applied_line count = number_line (codes "applied ") count

-- The number of a refused line of a dump, and why it was refused.
abbrev pub refused_dump_line : ℕ → DumpKind → List ℕ
refused_dump_line number kind = codes "line " ++ (decimal number ++ (codes " " ++ (dump_kind_word kind ++ 10 ∷ [])))

-- The count of faults of a bay that failed.
abbrev pub bay_fault_line : ℕ → List ℕ
bay_fault_line count = number_line (codes "fault bay ") count

-- The count of faults of a metadata device that failed.
abbrev pub meta_fault_line : ℕ → List ℕ
meta_fault_line count = number_line (codes "fault meta ") count

-- The count of faults of an origin that failed.
abbrev pub data_fault_line : ℕ → List ℕ
data_fault_line count = number_line (codes "fault data ") count

-- The count of faults of a source that failed.
abbrev pub source_fault_line : ℕ → List ℕ
source_fault_line count = number_line (codes "fault source ") count

-- Memory was refused.
abbrev pub memory_line : List ℕ
memory_line = codes "memory\n"

-- The words are no command.
abbrev pub usage_line : List ℕ
usage_line = codes "refused Usage\n"

-- The numbers are no geometry: the block size is none.
abbrev pub block_size_line : ℕ → List ℕ
block_size_line size = number_line (codes "refused BadBlockSize ") size

-- The numbers are no geometry: there is no block.
abbrev pub no_blocks_line : List ℕ
no_blocks_line = codes "refused NoBlocks\n"

-- The numbers are no geometry: there are more blocks than there may be.
abbrev pub many_blocks_line : ℕ → List ℕ
many_blocks_line blocks = number_line (codes "refused TooManyBlocks ") blocks

-- The metadata device and the origin are one.
abbrev pub same_device_line : List ℕ
same_device_line = codes "refused SameDevice\n"

-- An origin has too few sectors: how many it has, and how many it needs.
abbrev pub origin_small_line : ℕ → ℕ → List ℕ
origin_small_line have need = numbers_line (codes "refused OriginSmall ") have need

-- A metadata device has too few blocks: how many it has, and how many it needs.
abbrev pub meta_small_line : ℕ → ℕ → List ℕ
meta_small_line have need = numbers_line (codes "refused MetaSmall ") have need

-- A metadata device holds no metadata.
abbrev pub unformatted_line : List ℕ
unformatted_line = codes "refused Unformatted\n"

-- The first damage of metadata, and the metadata block where it stands.
abbrev pub damaged_line : DamageKind → ℕ → List ℕ
damaged_line kind block = kind_line (codes "refused Damaged ") (damage_word kind) block

-- The metadata is of another geometry: its length and block size, and those that were asked for.
abbrev pub wrong_geometry_line : Geometry → Geometry → List ℕ
wrong_geometry_line kept asked =
    codes "refused WrongGeometry " ++ (decimal kept.sectors ++ (codes " " ++ (decimal kept.block_sectors ++ (codes " "
    ++ (decimal asked.sectors ++ (codes " " ++ (decimal asked.block_sectors ++ 10 ∷ [])))))))

-- The last era stands in the metadata.
abbrev pub era_end_line : List ℕ
era_end_line = codes "refused EraEnd 4294967295\n"

-- The number of the last commit leaves too few numbers.
abbrev pub sequence_end_line : ℕ → List ℕ
sequence_end_line number = number_line (codes "refused SequenceEnd ") number

-- No snapshot is held.
abbrev pub no_snap_line : List ℕ
no_snap_line = codes "refused NoSnap\n"

-- How many blocks runs have.
abbrev pub block_count : List (ℕ × ℕ) → ℕ
block_count runs = sum_by (λ (run : ℕ × ℕ). run.1 + 1 - run.0) runs

-- The line of a run of blocks.
abbrev pub run_line : ℕ × ℕ → List ℕ
run_line run = run_text run ++ 10 ∷ []

-- The lines of runs, one after another.
abbrev pub run_lines : List (ℕ × ℕ) → List ℕ
run_lines runs = flat_map run_line runs

-- How many blocks are listed.
abbrev pub blocks_line : ℕ → List ℕ
blocks_line count = number_line (codes "blocks ") count

-- A list of blocks: how many they are, and a line for each run.
abbrev pub blocks_text : List (ℕ × ℕ) → List ℕ
blocks_text runs = blocks_line (block_count runs) ++ run_lines runs
