use Rattle.std.proofs.Common.{◌≡◌, take}
use Rattle.era_model.specs.MarkRuns.{eras_of_runs}
use Rattle.era_core.proofs.block_lists.are_entries.Given as goal

abbrev pub invariant-loop-block : goal.invariant-loop-block
invariant-loop-block l = take l.block l.entries ≡ eras_of_runs 0 l.block l.runs
