use Rattle.std.proofs.Common.{◌≡◌, ℕ, ◌+◌, ◌<◌, ◌≤◌, true, length}
use Rattle.era_base.specs.Flags.{has}
use Rattle.std.specs.Prelude.{max}
use Rattle.era_meta.proofs.taken_runs.mark_run.Given as goal

-- the blocks so far are in the set
abbrev pub invariant-loop-block : goal.invariant-loop-block
invariant-loop-block l = record {
  end : l.block ≤ max l.first (l.last + 1);
  size : length l.set ≡ length l.fn.set;
  within : (block : ℕ) → l.first ≤ block → block < l.block → has l.set block ≡ true;
  others : (block : ℕ) → (l.first ≤ block → l.block ≤ block) → has l.set block ≡ has l.fn.set block;
}
