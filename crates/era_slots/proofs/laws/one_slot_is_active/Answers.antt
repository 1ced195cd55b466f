use Rattle.era_slots.proofs.Survival.{active-same, active-blank}
use Rattle.era_slots.proofs.laws.one_slot_is_active.Goals as goal

pub returns-clause-one : goal.returns-clause-one
returns-clause-one c = active-same

pub returns-clause-blank : goal.returns-clause-blank
returns-clause-blank c = active-blank
