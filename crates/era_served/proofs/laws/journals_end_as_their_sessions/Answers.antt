use Rattle.era_journal.specs.ActsLog.{log_of}
use Rattle.era_served.proofs.ServedJournals.{journal-era, journal-places}
use Rattle.era_served.proofs.laws.journals_end_as_their_sessions.Goals as goal

pub returns-clause-era : goal.returns-clause-era
returns-clause-era g c = λ journal lane served first last places acts run.
    let opening = journal.opening in
    let stand = c.owners_stand_at_the_end.ensures journal last places acts run.ended in
    let own = c.owners_draws_are_own.ensures.owners g.D.Disk.tells opening acts _ _ stand in
    journal-era
    (record {
      keeper = c.acts_are_a_log.ensures.keeper;
      history = c.notes_follow_the_log.ensures.history;
      era = c.keeper_draws_tell_of_the_marks.ensures.era;
    })
    g.D.Disk journal last places acts run.ended stand.legal stand.state (c.owners_draw_at_their_disks.ensures.stripes opening.stripes opening (log_of opening.stripes acts) own)

pub returns-clause-places : goal.returns-clause-places
returns-clause-places g c = λ journal lane served first last places acts run.
    journal-places g.D.Disk journal last places acts run.ended (c.acts_are_a_log.ensures.entries journal.opening.stripes acts) (c.entries_are_drawn.ensures.places last.gate.plan.era acts)
