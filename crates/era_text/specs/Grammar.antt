-- What the lines of a dump text are read as: each line changes what was read, or is refused by its first kind.
use Rattle.std.specs.Prelude.{ℕ, ◌+◌, ◌^◌, ◌||◌, not, nat_lt, nat_le, List, [], ◌∷◌, ◌++◌, length, codes, bytes_eq, if◌then◌else◌}
use Rattle.era_base.specs.declared.limits.TheConstants.{MOST_SETS}
use Rattle.era_line.specs.Words.{words_of}
use Rattle.era_text.specs.Numbers.{number_of}
use Rattle.era_text.specs.declared.dump_kind.DumpKind.{DumpKind}
use Rattle.era_text.specs.declared.dump_kind.DumpKind.TheVariants.{Truncated, LongLine, Unknown, PastEnd, Order, BadEra, TooManySets, Trailing}
use Rattle.era_text.specs.declared.reading.Reading.{Reading}
use Rattle.era_text.specs.declared.section.Section.{Section}
use Rattle.era_text.specs.declared.section.Section.TheVariants.{Heading, Array, Set, Current, Done}
use Rattle.era_text.specs.FirstLine.{Head, Refuses, Step, Tells, blocks_in, first_step, greatest_era, is_apart, is_behind, is_past_era, last_of, start, unless, with_current_begun, with_number, with_set_begun, with_set_ended}

-- A run of the array.
abbrev pub array_run_step : Head → Reading → ℕ → ℕ → ℕ → Step Reading
array_run_step head reading first last era =
    unless (nat_le (blocks_in head) last) PastEnd
    (unless (nat_lt last first || not (is_behind (last_of reading.array) first era)) Order
    (unless (not (is_past_era head era)) BadEra
    (Tells (record reading { array = reading.array ++ (first, last, era) ∷ [] }))))

-- A run of a set.
abbrev pub run_step : Head → Reading → ℕ → ℕ → Step Reading
run_step head reading first last =
    unless (nat_le (blocks_in head) last) PastEnd
    (unless (nat_lt last first || not (is_apart (last_of reading.blocks) first)) Order
    (Tells (record reading { blocks = reading.blocks ++ (first, last) ∷ [] })))

-- The first archived set, behind the array.
abbrev pub first_set_step : Head → Reading → ℕ → Step Reading
first_set_step head reading era =
    unless (not (is_past_era head era) || nat_lt era (greatest_era reading.array)) BadEra (Tells (with_set_begun era reading))

-- A further archived set, behind the one that is being read.
abbrev pub next_set_step : Head → Reading → ℕ → Step Reading
next_set_step head reading era =
    unless (nat_le era reading.set_era) Order
    (unless (not (is_past_era head era)) BadEra
    (unless (nat_le MOST_SETS (length reading.archive + 1)) TooManySets
    (Tells (with_set_begun era (with_set_ended reading)))))

-- The words of a line of the array: a `set` line, or a run with its era.
abbrev pub array_words_step : Head → Reading → List (List ℕ) → Step Reading
array_words_step head reading (name ∷ era ∷ []) =
    unless (not (bytes_eq name (codes "set"))) Unknown (with_number (number_of (2 ^ 32) era) (λ era. first_set_step head reading era))
array_words_step head reading (first ∷ last ∷ era ∷ []) =
    with_number (number_of (2 ^ 32) first) (λ first. with_number (number_of (2 ^ 32) last) (λ last.
    with_number (number_of (2 ^ 32) era) (λ era. array_run_step head reading first last era)))
array_words_step head reading words = Refuses Unknown

-- The words of a run of a set.
abbrev pub run_words_step : Head → Reading → List (List ℕ) → Step Reading
run_words_step head reading (first ∷ last ∷ []) =
    with_number (number_of (2 ^ 32) first) (λ first. with_number (number_of (2 ^ 32) last) (λ last. run_step head reading first last))
run_words_step head reading words = Refuses Unknown

-- The words of a line of an archived set: a `set` line, or a run.
abbrev pub set_words_step : Head → Reading → List (List ℕ) → Step Reading
set_words_step head reading (first ∷ last ∷ []) =
    if bytes_eq first (codes "set")
    then with_number (number_of (2 ^ 32) last) (λ era. next_set_step head reading era)
    else run_words_step head reading (first ∷ last ∷ [])
set_words_step head reading words = Refuses Unknown

-- A line that isn't too long, by where it stands.
abbrev pub section_step : Section → Head → Reading → List ℕ → Step Reading
section_step Heading head reading line =
    if bytes_eq line (codes "array") then Tells (record reading { section = Array }) else Refuses Unknown
section_step Array head reading line =
    if bytes_eq line (codes "current") then Tells (with_current_begun reading) else array_words_step head reading (words_of line)
section_step Set head reading line =
    if bytes_eq line (codes "current") then Tells (with_current_begun (with_set_ended reading)) else set_words_step head reading (words_of line)
section_step Current head reading line =
    if bytes_eq line (codes "end") then Tells (record reading { section = Done }) else run_words_step head reading (words_of line)
section_step Done head reading line = Refuses Trailing

-- A line behind the first one. The order of the tests is the order of the kinds.
abbrev pub line_step : Head → Reading → List ℕ → Step Reading
line_step head reading line = unless (nat_lt 128 (length line)) LongLine (section_step reading.section head reading line)

-- How a dump text ends: whole, with what was read; or by the first refused line, with its number counted from 1, and its kind.
pub data DumpEnd : Type 0 where
  Whole : (head : Head) (reading : Reading) → DumpEnd
  RefusedAt : (line : ℕ) (kind : DumpKind) → DumpEnd

-- What a line with this number makes of the dump, where the lines behind it go on from what it told.
abbrev pub after_step : {A : Type 0} → ℕ → (A → DumpEnd) → Step A → DumpEnd
after_step number next (Tells value) = next value
after_step number next (Refuses kind) = RefusedAt number kind

-- The end of the input, where the line with this number would stand: the dump is whole behind the line `end` alone.
abbrev pub input_end : Section → ℕ → Head → Reading → DumpEnd
input_end Done number head reading = Whole head reading
input_end section number head reading = RefusedAt number Truncated

-- How the dump ends with these lines, where so many lines were read before them.
abbrev pub rest_end : Head → List (List ℕ) → ℕ → Reading → DumpEnd
rest_end head [] number reading = input_end reading.section (number + 1) head reading
rest_end head (line ∷ lines) number reading =
    after_step (number + 1) (λ next. rest_end head lines (number + 1) next) (line_step head reading line)

-- How a dump of these lines ends.
abbrev pub dump_end : List (List ℕ) → DumpEnd
dump_end [] = RefusedAt 1 Truncated
dump_end (line ∷ lines) = after_step 1 (λ head. rest_end head lines 1 start) (first_step line)
