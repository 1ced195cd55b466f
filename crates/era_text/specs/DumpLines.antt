-- The dump text of marks, as a function of their lists of runs.
use Rattle.std.specs.Prelude.{ℕ, List, [], ◌∷◌, ◌++◌, map, codes, decimal}
use Rattle.era_model.specs.declared.marked_set.MarkedSet.{MarkedSet}

-- The first line: the length and the block size in sectors, and the present era.
abbrev pub head_line : ℕ → ℕ → ℕ → List ℕ
head_line sectors size era = codes "eradump 1 " ++ (decimal sectors ++ 32 ∷ (decimal size ++ 32 ∷ decimal era))

-- A run of blocks of a set: its first and its last one.
abbrev pub run_line : ℕ × ℕ → List ℕ
run_line run = decimal run.0 ++ 32 ∷ decimal run.1

-- A run of the era array: its first and its last block, and their entry.
abbrev pub era_run_line : ℕ × ℕ × ℕ → List ℕ
era_run_line run = decimal run.0 ++ 32 ∷ (decimal run.1 ++ 32 ∷ decimal run.2)

-- The line before the runs of an archived set.
abbrev pub set_line : ℕ → List ℕ
set_line era = codes "set " ++ decimal era

-- The lines of archived sets, the oldest first: the line of each and then its runs.
abbrev pub archive_lines : List MarkedSet → List (List ℕ)
archive_lines [] = []
archive_lines (set ∷ sets) = set_line set.era ∷ (map run_line set.blocks ++ archive_lines sets)

-- The lines of the current set, up to the end.
abbrev pub current_lines : List (ℕ × ℕ) → List (List ℕ)
current_lines current = codes "current" ∷ (map run_line current ++ codes "end" ∷ [])

-- All lines of a dump: the era array as runs of blocks with the same entry other than 0, the archived sets, and the current one.
abbrev pub dump_lines : ℕ → ℕ → ℕ → List (ℕ × ℕ × ℕ) → List MarkedSet → List (ℕ × ℕ) → List (List ℕ)
dump_lines sectors size era array archive current =
    head_line sectors size era ∷ codes "array" ∷ (map era_run_line array ++ (archive_lines archive ++ current_lines current))
