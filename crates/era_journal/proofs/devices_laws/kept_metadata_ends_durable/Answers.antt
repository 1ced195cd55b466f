use Rattle.era_journal.specs.ActsLog.{log_of}
use Rattle.era_journal.proofs.Devices.{ends-durable}
use Rattle.era_journal.proofs.devices_laws.kept_metadata_ends_durable.Goals as goal

pub returns : goal.returns
returns c = λ tells journal acts views keeper stand entries leaves.
    ends-durable
    (record {
      entries = c.acts_are_a_log.ensures.entries;
      stripe = c.acts_are_a_log.ensures.stripe;
      keeper = c.acts_are_a_log.ensures.keeper;
      histories = c.notes_follow_the_log.ensures.history;
      meet = c.legal_acts_meet_the_model.ensures.model;
    })
    c.image_stands_for_one_meaning.ensures.one c.durable_marks_follow_the_log.ensures tells journal acts views keeper stand entries
    (c.owners_draw_at_their_disks.ensures.stripes journal.opening.stripes journal.opening (log_of journal.opening.stripes acts) (c.owners_draws_are_own.ensures.owners tells journal.opening acts views keeper stand))
    leaves
