use Rattle.era_journal.specs.ActsLog.{log_of}
use Rattle.era_journal.specs.SeenDevices.{devices_seen}
use Rattle.era_journal.proofs.devices_laws.owners_devices_follow.Goals as goal

pub returns-clause-follow : goal.returns-clause-follow
returns-clause-follow c = λ journal acts views keeper stand entries.
    c.devices_follow_their_owners.ensures journal (devices_seen views keeper) journal.opening.stripes (log_of journal.opening.stripes acts) c.images_have_one_meaning.ensures
    (c.owners_keep_their_devices.ensures journal acts views keeper stand entries)

pub returns-clause-survive : goal.returns-clause-survive
returns-clause-survive c = λ journal acts views keeper stand entries.
    c.changes_survive_crashes.ensures journal (devices_seen views keeper)
    (c.devices_follow_their_owners.ensures journal (devices_seen views keeper) journal.opening.stripes (log_of journal.opening.stripes acts) c.images_have_one_meaning.ensures
    (c.owners_keep_their_devices.ensures journal acts views keeper stand entries))
