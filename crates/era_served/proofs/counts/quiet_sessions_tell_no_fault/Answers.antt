use Rattle.era_served.proofs.ChainCounts.{none-tell, one-quiet}
use Rattle.era_served.proofs.QuietAnswers.{all-answered}
use Rattle.era_served.proofs.counts.quiet_sessions_tell_no_fault.Goals as goal

pub returns-clause-none : goal.returns-clause-none
returns-clause-none g c = λ served first last all none. none-tell g.D.Disk served first last all none

pub returns-clause-answers : goal.returns-clause-answers
returns-clause-answers g c = λ served first last one all none has.
    all-answered g.D.Disk served one first last all has (one-quiet g.D.Disk served one first last all has none)
