-- Where writes stand among marks and switches.
use Rattle.std.specs.Prelude.{◌≡◌, ℕ, ◌<◌, ◌≤◌, List, Contains, Option, Some, None}
use Rattle.era_base.specs.declared.ids.CmdId.{CmdId}
use Rattle.era_model.specs.declared.event.Event.{Event}
use Rattle.era_model.specs.declared.event.Event.TheVariants.{Mark, Go, Done, Cut, Settle, Unsettled, Roll}
use Rattle.era_gate.specs.Acts.{Account, entry}

-- The command whose write an event is of.
abbrev pub write_of_event : Event → Option CmdId
write_of_event (Go id block era first bytes) = Some id
write_of_event (Done id) = Some id
write_of_event (Cut id faults) = Some id
write_of_event (Settle by cut bytes) = Some cut
write_of_event (Unsettled by cut faults) = Some cut
write_of_event event = None

-- Each write that a stripe issued has its block's mark of its era among the keeper's entries, at a smaller place.
abbrev pub MarkPrecedesWrite : Account → ℕ → Type 0
MarkPrecedesWrite a d =
    (place : ℕ) (id : CmdId) (block era first : ℕ) (bytes : List ℕ)
    → Contains (a.stripe d).entries (entry place (Go id block era first bytes))
    → (mark : ℕ) × (by : CmdId) × (mark < place) × Contains a.keeper.entries (entry mark (Mark by block era))

-- Each event of a write that a stripe issued stands before any switch to a later era than the write's.
abbrev pub WriteEndsInEra : Account → ℕ → Type 0
WriteEndsInEra a d =
    (go place switch : ℕ) (id by : CmdId) (block era first next : ℕ) (bytes : List ℕ) (event : Event)
    → Contains (a.stripe d).entries (entry go (Go id block era first bytes))
    → Contains (a.stripe d).entries (entry place event) → write_of_event event ≡ Some id
    → Contains a.keeper.entries (entry switch (Roll by next)) → era < next → place < switch

-- A write that a stripe issued stands behind each switch to its era, or to an earlier one.
abbrev pub WriteBeginsInEra : Account → ℕ → Type 0
WriteBeginsInEra a d =
    (go switch : ℕ) (id by : CmdId) (block era first next : ℕ) (bytes : List ℕ)
    → Contains (a.stripe d).entries (entry go (Go id block era first bytes))
    → Contains a.keeper.entries (entry switch (Roll by next)) → next ≤ era → switch < go
