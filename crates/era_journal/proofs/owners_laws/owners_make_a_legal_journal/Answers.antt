use Rattle.era_journal.specs.ActsLog.{log_of}
use Rattle.era_journal.proofs.owners_laws.owners_make_a_legal_journal.Goals as goal

pub returns : goal.returns
returns c = λ tells journal acts views keeper stand entries.
    c.owners_journals_are_legal.ensures journal journal.opening.stripes (log_of journal.opening.stripes acts) stand.keeper.opens entries
    (c.owners_draws_are_own.ensures.own tells journal.opening acts views keeper stand) (c.owners_draws_are_own.ensures.owners tells journal.opening acts views keeper stand)
    (c.owners_draws_are_told.ensures tells journal.opening acts views keeper stand)
