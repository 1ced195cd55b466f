use Rattle.std.proofs.Common.{refl}
use Rattle.std.specs.Fmt.{digits}
use Rattle.era_model.proofs.WorkedRuns.{run-worked}
use Rattle.era_model.proofs.run_laws.digest_worker_has_its_lines.Goals as goal

pub returns-clause-transcript : goal.returns-clause-transcript
unfolding digits
returns-clause-transcript c = refl

pub returns-clause-run : goal.returns-clause-run
returns-clause-run c = run-worked
