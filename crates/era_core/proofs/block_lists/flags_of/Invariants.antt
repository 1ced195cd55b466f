use Rattle.std.proofs.Common.{◌≡◌}
use Rattle.era_model.specs.MarkRuns.{flags_of_runs}
use Rattle.era_core.proofs.block_lists.flags_of.Given as goal

abbrev pub invariant-loop-block : goal.invariant-loop-block
invariant-loop-block l = l.flags.items ≡ flags_of_runs 0 l.block l.runs
