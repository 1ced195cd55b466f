-- How many blocks maximal runs have: no more than there are up to the last one of them.
use Rattle.std.proofs.Common.{◌≡◌, ℕ, zero, suc, ◌+◌, ◌-◌, ◌<◌, ◌≤◌, List, [], ◌∷◌, length, get_or, take, ap, arith}
use Rattle.std.proofs.lemmas.List.{take_more}
use Rattle.std.proofs.lemmas.List.Sums.{sum_by-append, sum_by-cons}
use Rattle.era_base.specs.Runs.{AreRuns}
use Rattle.era_tools.specs.ToolLines.{block_count}

-- The blocks of the runs before an index lie from a block on before the run there, which has a block.
pub record LieBefore (from : ℕ) (runs : List (ℕ × ℕ)) (index : ℕ) (d : ℕ × ℕ) : Type 0 where
  pub before : from + block_count (take index runs) ≤ (get_or runs index d).0
  pub some : (get_or runs index d).0 ≤ (get_or runs index d).1

-- where the first run begins from that block on
pub lie-before : (from : ℕ) (run : ℕ × ℕ) (runs : List (ℕ × ℕ)) (index : ℕ) (d : ℕ × ℕ) → from ≤ run.0 → AreRuns (run ∷ runs) → index < length (run ∷ runs)
    → LieBefore from (run ∷ runs) index d
lie-before from run runs zero d first are within = record { before = omega (arith, first); some = are.0 }
lie-before from run [] (suc index) d first are within = absurd (omega arith)
lie-before from run (next ∷ runs) (suc index) d first are within =
    let rest = lie-before (run.1 + 1) next runs index d (let gap = are.1 in omega arith) are.2 (omega arith) in
    let count = sum_by-cons (λ (r : ℕ × ℕ). r.1 + 1 - r.0) run (take index (next ∷ runs)) in
    record { before = let before = rest.before in let some = are.0 in omega (arith, count); some = rest.some }

pub lie-before-all : (runs : List (ℕ × ℕ)) (index : ℕ) (d : ℕ × ℕ) → AreRuns runs → index < length runs → LieBefore 0 runs index d
lie-before-all [] index d are within = absurd (omega arith)
lie-before-all (run ∷ runs) index d are within = lie-before 0 run runs index d (omega arith) are within

-- one run more
pub count-more : (runs : List (ℕ × ℕ)) (index : ℕ) (d : ℕ × ℕ) → index < length runs
    → block_count (take (index + 1) runs) ≡ block_count (take index runs) + ((get_or runs index d).1 + 1 - (get_or runs index d).0)
count-more runs index d within =
    let size = λ (r : ℕ × ℕ). r.1 + 1 - r.0 in
    let all = ap block_count (take_more runs index d within) in
    let two = sum_by-append size (take index runs) (get_or runs index d ∷ []) in
    let one = sum_by-cons size (get_or runs index d) [] in
    omega (arith, all, two, one)

-- the blocks of a run by its ends, and those of the runs before it with them
pub run-fits : (runs : List (ℕ × ℕ)) (index : ℕ) (d : ℕ × ℕ) (last first : ℕ) → AreRuns runs → index < length runs
    → last ≡ (get_or runs index d).1 → first ≡ (get_or runs index d).0 → first ≤ last + 1
run-fits runs index d last first are within ends begins =
    let lie = lie-before-all runs index d are within in
    let some = lie.some in
    omega (arith, ends, begins, some)

pub count-fits : (runs : List (ℕ × ℕ)) (index : ℕ) (d : ℕ × ℕ) (last first count : ℕ) → AreRuns runs → index < length runs
    → last ≡ (get_or runs index d).1 → first ≡ (get_or runs index d).0 → count ≡ block_count (take index runs) → count + (last + 1 - first) ≤ last + 1
count-fits runs index d last first count are within ends begins counted =
    let lie = lie-before-all runs index d are within in
    let some = lie.some in
    let before = lie.before in
    omega (arith, ends, begins, some, before, counted)
