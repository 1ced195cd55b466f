use Rattle.std.proofs.Common.{◌≡◌, ℕ, ◌-◌, drop, length}
use Rattle.era_base.specs.Flags.{has}
use Rattle.era_base.specs.Runs.{runs_cover}
use Rattle.era_meta.proofs.taken_runs.take_set_runs.Given as goal

-- the last runs are in the set
abbrev pub invariant-loop-back : goal.invariant-loop-back
invariant-loop-back l = record {
  size : length l.set ≡ length l.fn.set;
  told : (block : ℕ) → runs_cover (drop (length l.runs - l.back) l.runs) block ≡ has l.set block;
}
