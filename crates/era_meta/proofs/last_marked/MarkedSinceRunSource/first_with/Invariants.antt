use Rattle.std.proofs.Common.{◌≡◌, ℕ, ◌<◌, ◌≤◌, not}
use Rattle.era_model.specs.Marks.{written_since}
use Rattle.era_meta.proofs.last_marked.MarkedSinceRunSource.first_with.Given as goal

-- no block before is of the kind
abbrev pub invariant-loop-block : goal.invariant-loop-block
invariant-loop-block l = (block : ℕ) → l.from ≤ block → block < l.block → written_since l.self.marks.now l.self.era block ≡ not l.flag
