use Rattle.std.proofs.Common.{◌≡◌, drop}
use Rattle.era_base.specs.Runs.{runs_cover}
use Rattle.era_model.proofs.last_eras.is_covered.Given as goal

abbrev pub invariant-loop-run : goal.invariant-loop-run
invariant-loop-run l = runs_cover l.runs l.block ≡ runs_cover (drop l.run-index l.runs) l.block
