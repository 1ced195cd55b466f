use Rattle.era_model.proofs.RunsOfFlags.{RunsSoFar}
use Rattle.era_model.proofs.block_runs.runs_of_flags.Given as goal

abbrev pub invariant-loop-index : goal.invariant-loop-index
invariant-loop-index l = RunsSoFar l.flags l.runs l.first l.index
