-- What a session that ended accounts for.
use Rattle.std.specs.Prelude.{◌≡◌, ℕ, List, false}
use Rattle.era_base.specs.declared.disk.Disk.{Ghosts}
use Rattle.era_gate.specs.Acts.{Act}
use Rattle.era_journal.specs.ActsLog.{log_of}
use Rattle.era_journal.specs.SeenDevices.{devices_seen}
use Rattle.era_keeper.specs.Keepers.{view_of as keeper_view}
use Rattle.era_model.specs.declared.journal.Journal.{Journal}
use Rattle.era_promise.specs.Owners.{logged_entries}
use Rattle.era_promise.specs.Sessions.{SessionDevices}
use Rattle.era_session.specs.Ends.{DrewActs, stripe_views}
use Rattle.era_session.specs.Sessions.{SessionFits, SessionStands}
use Rattle.era_session.specs.declared.session.Session.{Session}

-- A session ends with a journal: it fits together and stands in the journal's opening, its gate drew these acts and so many places, and the journal has just their entries.
pub record HasEnded {D : Type 0} (disk : Ghosts D) (journal : Journal) (session : Session D) (places : ℕ) (acts : List Act) : Type 0 where
  pub fits : SessionFits disk session
  pub stands : SessionStands disk journal.opening session
  pub drew : DrewActs session places acts
  pub entries : journal.entries ≡ logged_entries (log_of journal.opening.stripes acts)

-- The session's devices as crashes see them: its parts in the order of the stripes, and the metadata disk.
abbrev pub session_devices : {D : Type 0} → Ghosts D → Session D → SessionDevices
session_devices disk session = devices_seen (stripe_views disk session.stripes.items) (keeper_view disk session.keeper)
