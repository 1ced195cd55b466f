use Rattle.era_core.proofs.Sessions.{crash-behind, legal-behind}
use Rattle.era_core.proofs.laws.sessions_stand_by_themselves.Goals as goal

pub returns-clause-legal : goal.returns-clause-legal
returns-clause-legal c = legal-behind

pub returns-clause-crash : goal.returns-clause-crash
returns-clause-crash c = crash-behind
