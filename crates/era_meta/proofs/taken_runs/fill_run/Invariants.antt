use Rattle.std.proofs.Common.{◌≡◌, ℕ, ◌+◌, ◌<◌, ◌≤◌, length}
use Rattle.std.specs.Prelude.{max, slice_index}
use Rattle.era_meta.proofs.taken_runs.fill_run.Given as goal

-- the blocks so far have the era
abbrev pub invariant-loop-block : goal.invariant-loop-block
invariant-loop-block l = record {
  end : l.block ≤ max l.first (l.last + 1);
  size : length l.array ≡ length l.fn.array;
  within : (block : ℕ) → l.first ≤ block → block < l.block → slice_index l.array block ≡ l.era;
  others : (block : ℕ) → (l.first ≤ block → l.block ≤ block) → slice_index l.array block ≡ slice_index l.fn.array block;
}
