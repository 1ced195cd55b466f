use Rattle.era_account.proofs.laws.ended_sessions_have_legal_journals.Goals as goal

pub returns : goal.returns
returns g c = λ journal session places acts ended.
    c.owners_make_a_legal_journal.ensures g.D.Disk.tells journal acts _ _ (c.owners_stand_at_the_end.ensures journal session places acts ended) ended.entries
