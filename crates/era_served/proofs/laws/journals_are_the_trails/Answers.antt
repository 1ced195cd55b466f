use Rattle.era_served.proofs.ServedJournals.{journal-entries}
use Rattle.era_served.proofs.laws.journals_are_the_trails.Goals as goal

pub returns : goal.returns
returns g c = journal-entries
    (record {
      entries = c.acts_are_a_log.ensures.entries;
      lanes = c.lanes_have_their_receipts.ensures.entries;
      few = c.lanes_have_their_receipts.ensures.few;
    })
    g.D.Disk c.served_commands_leave_their_trail.ensures
