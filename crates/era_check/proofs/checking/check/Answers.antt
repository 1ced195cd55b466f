use Rattle.std.proofs.Common.{sym, subst}
use Rattle.era_check.specs.Checks.{refusal_in}
use Rattle.era_meta.specs.Openings.{Tried}
use Rattle.era_meta.specs.Trials.{look_trials}
use Rattle.era_check.proofs.Lookings.{clean-image, tried-checked}
use Rattle.era_check.proofs.checking.check.Goals as goal

-- the metadata is what the image stands for
pub returns-in-Ok-clause-clean : goal.returns-in-Ok-clause-clean
returns-in-Ok-clause-clean g c =
    clean-image g.row.D.Denot g.D.Disk c.args.disk c.in-Ok.meta c.status-used.result.2 c.status-used.result.0
    c.in-Ok.ensures.looked c.in-Ok.ensures.tried c.status-used.ensures.era c.status-used.ensures.used

-- a look refused it
pub returns-in-Err-clause-tried : goal.returns-in-Err-clause-tried
returns-in-Err-clause-tried g c =
    rw c.checked.ensures (tried-checked g.row.D.Denot g.D.Disk c.args.disk c.in-Err.refusal.disk c.in-Err.refusal.error c.in-Err.ensures.tried)
