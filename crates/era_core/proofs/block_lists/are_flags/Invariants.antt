use Rattle.std.proofs.Common.{◌≡◌, take}
use Rattle.era_model.specs.MarkRuns.{flags_of_runs}
use Rattle.era_core.proofs.block_lists.are_flags.Given as goal

abbrev pub invariant-loop-block : goal.invariant-loop-block
invariant-loop-block l = take l.block l.flags ≡ flags_of_runs 0 l.block l.runs
