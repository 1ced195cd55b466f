use Rattle.std.proofs.Common.{ℕ, ◌<◌}
use Rattle.std.specs.Prelude.{reverse}
use Rattle.era_model.specs.Changed.{IsCrashContent}
use Rattle.era_model.specs.Writes.{block_bytes}
use Rattle.era_core.proofs.images.may_leave_contents.Given as goal

abbrev pub invariant-loop-block : goal.invariant-loop-block
invariant-loop-block l = (block : ℕ) → block < l.block → IsCrashContent (reverse l.h) block (block_bytes l.size l.bytes block)
