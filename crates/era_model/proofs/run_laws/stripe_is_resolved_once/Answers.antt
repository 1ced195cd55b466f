use Rattle.era_model.proofs.WorkedRuns.{not-resolved_twice, not-unresolved_twice}
use Rattle.era_model.proofs.run_laws.stripe_is_resolved_once.Goals as goal

pub returns : goal.returns
returns c = record { resolved = not-resolved_twice; unresolved = not-unresolved_twice }
