use Rattle.era_layout.specs.Damage.{Passes}
use Rattle.era_meta.proofs.RootFindings.{root-found}
use Rattle.era_meta.proofs.roots_reading.check_slot.Goals as goal

pub returns-in-Err : goal.returns-in-Err
returns-in-Err c =
    root-found (Passes c.args.body.now) c.in-Err.error c.args.slot c.root_finding.result (λ differs. c.in-Err.ensures.first) c.root_finding.ensures
