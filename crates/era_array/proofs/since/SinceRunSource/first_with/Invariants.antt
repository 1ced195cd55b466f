use Rattle.std.proofs.Common.{◌≡◌, ℕ, ◌<◌, ◌≤◌, not, slice_index}
use Rattle.std.specs.Prelude.{nat_le}
use Rattle.era_array.proofs.since.SinceRunSource.first_with.Given as goal

-- no block before is of the kind
abbrev pub invariant-loop-block : goal.invariant-loop-block
invariant-loop-block l = (block : ℕ) → l.from ≤ block → block < l.block → nat_le l.self.era (slice_index l.self.entries.now block) ≡ not l.flag
