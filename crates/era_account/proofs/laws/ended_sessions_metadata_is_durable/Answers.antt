use Rattle.era_account.proofs.laws.ended_sessions_metadata_is_durable.Goals as goal

pub returns : goal.returns
returns g c = λ journal session places acts ended durable.
    c.kept_metadata_ends_durable.ensures g.D.Disk.tells journal acts _ _ (c.owners_stand_at_the_end.ensures journal session places acts ended) ended.entries durable
