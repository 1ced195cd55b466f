-- Small dumps that are worked out by hand.
use Rattle.std.specs.Prelude.{◌≡◌, ℕ, zero, suc, ◌+◌, List, [], ◌∷◌, ◌++◌, codes}
use Rattle.era_line.specs.Lines.{lines_of, lines_text}
use Rattle.era_model.specs.Marks.{BlockMarks}
use Rattle.era_model.specs.declared.marked_set.MarkedSet.{MarkedSet}
use Rattle.era_text.specs.DumpLines.{dump_lines, set_line}
use Rattle.era_text.specs.Dumps.{listed_marks}
use Rattle.era_text.specs.Grammar.{DumpEnd, RefusedAt, Whole, dump_end}
use Rattle.era_text.specs.declared.dump_kind.DumpKind.{DumpKind}

-- The archived set of era 1 with the blocks 0, 1 and 5.
abbrev pub first_set : MarkedSet
first_set = record { era = 1; blocks = (0, 1) ∷ (5, 5) ∷ [] }

-- Marks of 64 blocks in era 2: that set, and block 1 marked again.
abbrev pub two_eras : BlockMarks
two_eras = listed_marks 512 8 2 [] (first_set ∷ []) ((1, 1) ∷ [])

-- The text of their dump.
abbrev pub two_eras_text : List ℕ
two_eras_text = lines_text (dump_lines 512 8 2 [] (first_set ∷ []) ((1, 1) ∷ []))

-- The text of their logical dump.
abbrev pub two_eras_logical_text : List ℕ
two_eras_logical_text = lines_text (dump_lines 512 8 2 ((0, 1, 1) ∷ (5, 5, 1) ∷ []) [] ((1, 1) ∷ []))

-- A text is refused at a line, for a kind.
abbrev pub IsRefused : List ℕ → ℕ → DumpKind → Type 0
IsRefused text line kind = dump_end (lines_of text) ≡ RefusedAt line kind

-- A dump has ended whole.
abbrev pub HasEnded : DumpEnd → Type 0
HasEnded (Whole head reading) = Unit {0}
HasEnded (RefusedAt line kind) = ⊥

-- A text is read as a whole dump.
abbrev pub IsWhole : List ℕ → Type 0
IsWhole text = HasEnded (dump_end (lines_of text))

-- The lines of so many archived sets without blocks, of the eras from 1 on.
abbrev pub empty_sets : ℕ → List (List ℕ)
empty_sets zero = []
empty_sets (suc count) = empty_sets count ++ set_line (count + 1) ∷ []

-- A dump text of so many archived sets without blocks.
abbrev pub text_of_sets : ℕ → List ℕ
text_of_sets count =
    codes "eradump 1 512 8 99\narray\n" ++ lines_text (empty_sets count ++ (codes "current" ∷ codes "end" ∷ []))
