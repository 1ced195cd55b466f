use Rattle.std.proofs.Common.{true}
use Rattle.era_journal.proofs.Devices.{devices-kept}
use Rattle.era_journal.proofs.devices_laws.owners_keep_their_devices.Goals as goal

pub returns : goal.returns
returns c = λ journal acts views keeper stand entries.
    devices-kept
    (record {
      entries = c.acts_are_a_log.ensures.entries;
      stripe = c.acts_are_a_log.ensures.stripe;
      keeper = c.acts_are_a_log.ensures.keeper;
      histories = c.notes_follow_the_log.ensures.history;
      meet = c.legal_acts_meet_the_model.ensures.model;
    })
    journal acts views keeper stand entries (c.owners_make_a_legal_journal.ensures true journal acts views keeper stand entries)
    (c.owners_draws_are_own.ensures.own true journal.opening acts views keeper stand) (c.owners_draws_are_own.ensures.owners true journal.opening acts views keeper stand)
