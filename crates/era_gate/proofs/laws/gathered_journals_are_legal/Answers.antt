use Rattle.era_gate.proofs.GatheredDrawers.{gathered-drawn}
use Rattle.era_gate.proofs.GatheredLegal.{drawn-legal, journal-legal}
use Rattle.era_gate.proofs.laws.gathered_journals_are_legal.Goals as goal

pub returns-clause-drawn : goal.returns-clause-drawn
returns-clause-drawn c = gathered-drawn

pub returns-clause-history : goal.returns-clause-history
returns-clause-history c = drawn-legal

pub returns-clause-journal : goal.returns-clause-journal
returns-clause-journal c = journal-legal
