-- The text of a dump as it is given: the lines of one part after another.
use Rattle.std.specs.Prelude.{ℕ, List, [], ◌∷◌, ◌++◌, codes}
use Rattle.std.specs.List.{flat_map}
use Rattle.era_model.specs.declared.marked_set.MarkedSet.{MarkedSet}
use Rattle.era_text.specs.DumpLines.{era_run_line, head_line, run_line, set_line}

-- A line with its LF.
abbrev pub ended : List ℕ → List ℕ
ended line = line ++ 10 ∷ []

-- A line for each item, one after another.
abbrev pub lines_text_of : {A : Type 0} → (A → List ℕ) → List A → List ℕ
lines_text_of {A} line items = flat_map (λ (item : A). ended (line item)) items

-- The lines of an archived set.
abbrev pub set_text : MarkedSet → List ℕ
set_text set = ended (set_line set.era) ++ lines_text_of run_line set.blocks

-- The lines of archived sets.
abbrev pub sets_text : List MarkedSet → List ℕ
sets_text sets = flat_map set_text sets

-- The lines of the current set, up to the end.
abbrev pub current_text : List (ℕ × ℕ) → List ℕ
current_text runs = codes "current\n" ++ (lines_text_of run_line runs ++ codes "end\n")

-- All lines of a dump.
abbrev pub lists_text : ℕ → ℕ → ℕ → List (ℕ × ℕ × ℕ) → List MarkedSet → List (ℕ × ℕ) → List ℕ
lists_text sectors size era array archive current =
    (ended (head_line sectors size era) ++ codes "array\n") ++ (lines_text_of era_run_line array ++ (sets_text archive ++ current_text current))
