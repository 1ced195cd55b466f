-- What a line of a dump text tells, and what the first line does.
use Rattle.std.specs.Prelude.{ℕ, ◌+◌, ◌%◌, ◌^◌, ◌==◌, ◌&&◌, max, Bool, true, not, nat_lt, nat_le, List, [], ◌∷◌, ◌++◌, length, Option, Some, None, codes, bytes_eq, if◌then◌else◌}
use Rattle.era_base.specs.Geometry.{blocks_of}
use Rattle.era_base.specs.declared.limits.TheConstants.{MOST_BLOCKS}
use Rattle.era_line.specs.Words.{words_of}
use Rattle.era_text.specs.Numbers.{number_of}
use Rattle.era_text.specs.declared.dump_kind.DumpKind.{DumpKind}
use Rattle.era_text.specs.declared.dump_kind.DumpKind.TheVariants.{LongLine, Unknown, BadNumber, BadGeometry, BadEra}
use Rattle.era_text.specs.declared.reading.Reading.{Reading}
use Rattle.era_text.specs.declared.section.Section.TheVariants.{Heading, Set, Current}

-- What a line tells: a value, or it is refused.
pub data Step (A : Type 0) : Type 0 where
  Tells : (value : A) → Step A
  Refuses : (kind : DumpKind) → Step A

-- A step, unless a fault makes that the line is refused.
abbrev pub unless : {A : Type 0} → Bool → DumpKind → Step A → Step A
unless fault kind step = if fault then Refuses kind else step

-- A step that a number is needed for.
abbrev pub with_number : {A : Type 0} → Option ℕ → (ℕ → Step A) → Step A
with_number None next = Refuses BadNumber
with_number (Some number) next = next number

-- What the first line says: the length and the block size in sectors, and the present era.
pub record Head : Type 0 where
  pub sectors : ℕ
  pub block_sectors : ℕ
  pub era : ℕ

-- The last of some items behind a first one.
abbrev pub last_or : {A : Type 0} → A → List A → A
last_or first [] = first
last_or first (item ∷ items) = last_or item items

-- The last of some items, if there is one.
abbrev pub last_of : {A : Type 0} → List A → Option A
last_of [] = None
last_of (item ∷ items) = Some (last_or item items)

-- How many blocks the marks are of.
abbrev pub blocks_in : Head → ℕ
blocks_in head = blocks_of head.sectors head.block_sectors

-- An era of the past: it isn't 0 and is below the present one.
abbrev pub is_past_era : Head → ℕ → Bool
is_past_era head era = nat_lt 0 era && nat_lt era head.era

-- Whether a block may be the first of the next run of a set: it is behind the run before, and doesn't touch it.
abbrev pub is_apart : Option (ℕ × ℕ) → ℕ → Bool
is_apart None first = true
is_apart (Some before) first = nat_lt (before.1 + 1) first

-- Whether a block may be the first of the next run of the array: it is behind the run before, and doesn't touch it where both have the same era.
abbrev pub is_behind : Option (ℕ × ℕ × ℕ) → ℕ → ℕ → Bool
is_behind None first era = true
is_behind (Some before) first era = nat_lt before.1 first && not (before.1 + 1 == first && before.2 == era)

-- The greatest era of runs of the array.
abbrev pub greatest_era : List (ℕ × ℕ × ℕ) → ℕ
greatest_era [] = 0
greatest_era (run ∷ runs) = max run.2 (greatest_era runs)

-- Numbers of sectors that are a geometry: the block size is a multiple of 8 from 8 to 128, and there are 1 to 65,536 blocks.
abbrev pub is_geometry : ℕ → ℕ → Bool
is_geometry sectors size =
    size % 8 == 0 && nat_le 8 size && nat_le size 128 && nat_lt 0 sectors && nat_le (blocks_of sectors size) MOST_BLOCKS

-- What was read behind the first line: nothing.
abbrev pub start : Reading
start = record {
  section = Heading;
  array = [];
  archive = [];
  set_era = 0;
  blocks = [];
}

-- The archived sets with the one that is being read as the last of them.
abbrev pub with_set_ended : Reading → Reading
with_set_ended reading = record reading { archive = reading.archive ++ record { era = reading.set_era; blocks = reading.blocks } ∷ [] }

-- An archived set of an era begins.
abbrev pub with_set_begun : ℕ → Reading → Reading
with_set_begun era reading = record reading { section = Set; set_era = era; blocks = [] }

-- The current set begins.
abbrev pub with_current_begun : Reading → Reading
with_current_begun reading = record reading { section = Current; blocks = [] }

-- The numbers of the first line.
abbrev pub head_step : ℕ → ℕ → ℕ → Step Head
head_step sectors size era =
    unless (not (is_geometry sectors size)) BadGeometry
    (unless (era == 0) BadEra (Tells (record { sectors = sectors; block_sectors = size; era = era })))

-- The words of the first line.
abbrev pub head_words_step : List (List ℕ) → Step Head
head_words_step (name ∷ version ∷ sectors ∷ size ∷ era ∷ []) =
    unless (not (bytes_eq name (codes "eradump") && bytes_eq version (codes "1"))) Unknown
    (with_number (number_of (2 ^ 64) sectors) (λ sectors. with_number (number_of (2 ^ 64) size) (λ size.
    with_number (number_of (2 ^ 32) era) (λ era. head_step sectors size era))))
head_words_step words = Refuses Unknown

-- The first line.
abbrev pub first_step : List ℕ → Step Head
first_step line = unless (nat_lt 128 (length line)) LongLine (head_words_step (words_of line))
