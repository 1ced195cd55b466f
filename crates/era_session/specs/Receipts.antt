-- The receipts of what a command drew: each lane has those of its own commands, in order.
use Rattle.std.specs.Prelude.{◌≡◌, ℕ, ◌==◌, Bool, List, [], ◌∷◌, ◌++◌, length, map, filter}
use Rattle.era_base.specs.declared.ids.CmdId.{CmdId}
use Rattle.era_gate.specs.Acts.{lane_of}
use Rattle.era_gate.specs.Calls.{PassToken}
use Rattle.era_gate.specs.Passes.{KeepsPass}
use Rattle.era_gate.specs.Receipts.{entries_in}
use Rattle.era_gate.specs.declared.parts.LanePart.{LanePart}
use Rattle.era_gate.specs.declared.stays.Receipt.{Receipt}
use Rattle.era_gate.specs.declared.stays.Receipt.TheVariants.{OfEvent, OfStay}
use Rattle.era_model.specs.declared.entry.Entry.{Entry}
use Rattle.era_model.specs.declared.event.Event.{Event}

-- The lane for which a receipt is.
abbrev pub receipt_lane : Receipt → ℕ
receipt_lane (OfEvent e) = lane_of e.event
receipt_lane (OfStay stay) = stay.id.lane

-- A lane that got those of some receipts that are for it, behind the ones that it had.
abbrev pub gets : List Receipt → LanePart → LanePart
gets receipts part = record {
  lane = part.lane;
  receipts = part.receipts ++ filter (λ receipt. part.lane == receipt_lane receipt) receipts;
}

-- The events of entries.
abbrev pub events_in : List Entry → List Event
events_in entries = map (λ (entry : Entry). entry.event) entries

-- A pass was given the receipts of these events, in order, and of no others; beside them it may have some of stays.
pub record PassDrew (events : List Event) (issued : CmdId → Bool) (old new : PassToken) : Type 0 where
  pub receipts : List Receipt
  pub are : events_in (entries_in receipts) ≡ events
  pub lanes : new.part.lanes ≡ map (gets receipts) old.part.lanes
  pub keeps : KeepsPass (length events) issued old new
