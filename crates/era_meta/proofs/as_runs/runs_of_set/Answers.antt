use Rattle.era_meta.proofs.MarkRunsTold.{set-told}
use Rattle.era_meta.proofs.as_runs.runs_of_set.Goals as goal

pub returns : goal.returns
returns c = set-told c.args.set.now c.in_ok-runs.runs c.as_slice-runs.ensures.runs c.in_ok-runs.ensures
