use Rattle.std.proofs.Common.{◌≡◌, ℕ, ◌-◌, drop, length}
use Rattle.std.specs.Prelude.{slice_index}
use Rattle.era_model.specs.MarkRuns.{era_in_runs}
use Rattle.era_meta.proofs.taken_runs.take_era_runs.Given as goal

-- the entries are those of the last runs
abbrev pub invariant-loop-back : goal.invariant-loop-back
invariant-loop-back l = record {
  size : length l.array ≡ length l.fn.array;
  told : (block : ℕ) → era_in_runs (drop (length l.runs - l.back) l.runs) block ≡ slice_index l.array block;
}
