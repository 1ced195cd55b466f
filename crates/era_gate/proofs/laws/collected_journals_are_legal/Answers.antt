use Rattle.era_gate.proofs.Collected.{collected-drawn, collected-legal}
use Rattle.era_gate.proofs.laws.collected_journals_are_legal.Goals as goal

pub returns-clause-drawn : goal.returns-clause-drawn
returns-clause-drawn c plan places parts kept lanes acts entries tells are = collected-drawn plan places parts kept lanes acts tells entries are

pub returns-clause-journal : goal.returns-clause-journal
returns-clause-journal c plan places parts kept lanes acts journal tells opens stripes era own are rest =
    collected-legal plan places parts kept lanes acts tells journal opens stripes era own are rest
