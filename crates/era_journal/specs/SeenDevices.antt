-- The devices of a session as its owners see them, and what images of its metadata disk mean.
use Rattle.std.specs.Prelude.{ℕ, List, map, Option}
use Rattle.era_keeper.specs.Keepers.{KeeperView}
use Rattle.era_meta.specs.Meaning.{IsImageOf}
use Rattle.era_model.specs.Marks.{BlockMarks}
use Rattle.era_notes.specs.Windows.{NotedDevice}
use Rattle.era_promise.specs.Sessions.{PartDevice, SessionDevices}
use Rattle.era_stripe.specs.Stripes.{StripeView}

-- An image of a metadata disk stands for marks and a snapshot, or none.
abbrev pub StandsForMarks : List ℕ → BlockMarks → Option BlockMarks → Type 0
StandsForMarks image m held = IsImageOf (record { marks = m; held = held }) image

-- The part of a stripe.
abbrev pub part_seen : StripeView → PartDevice
part_seen view = record { part = view.part; device = record { history = view.history; begun = view.begun; notes = view.notes } }

-- The keeper's disk.
abbrev pub metadata_seen : KeeperView → NotedDevice
metadata_seen keeper = record { history = keeper.history; begun = keeper.begun; notes = keeper.notes }

-- All devices of a session.
abbrev pub devices_seen : List StripeView → KeeperView → SessionDevices
devices_seen views keeper = record { parts = map part_seen views; metadata = metadata_seen keeper }
