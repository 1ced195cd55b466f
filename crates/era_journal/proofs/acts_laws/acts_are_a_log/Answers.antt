use Rattle.std.proofs.Common.{[], sym, ◌∙◌}
use Rattle.era_gate.specs.Acts.{opened}
use Rattle.era_journal.proofs.ActsLogs.{keeper-notes, log-entries, stripe-notes}
use Rattle.era_journal.proofs.acts_laws.acts_are_a_log.Goals as goal

pub returns-clause-entries : goal.returns-clause-entries
returns-clause-entries c = λ keeper acts. sym (log-entries keeper [] acts)

pub returns-clause-stripe : goal.returns-clause-stripe
returns-clause-stripe c = λ d n era acts notes low are. stripe-notes d n acts notes low (are ∙ c.entries_are_drawn.ensures.stripe d era acts)

pub returns-clause-keeper : goal.returns-clause-keeper
returns-clause-keeper c = λ n era acts notes legal are. keeper-notes n (opened era) acts notes legal (are ∙ c.entries_are_drawn.ensures.keeper era acts)
