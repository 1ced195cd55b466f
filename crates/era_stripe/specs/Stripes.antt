-- What stands of a stripe: what fits together whatever the disk tells, and what its entries say of its part.
use Rattle.std.specs.Prelude.{◌≡◌, ℕ, ◌+◌, ◌≤◌, Bool, true, false, List, [], ◌∷◌, ◌++◌, length, vec_len, Option, Some, None, is_some}
use Rattle.era_base.specs.CrashModel.{History, clock}
use Rattle.era_base.specs.Geometry.{blocks_of}
use Rattle.era_base.specs.declared.disk.Disk.{Ghosts}
use Rattle.era_base.specs.declared.geometry.Geometry.{Geometry}
use Rattle.era_gate.specs.Acts.{entry, flights, stripe_with, stripe_out}
use Rattle.era_gate.specs.Places.{AscendFrom}
use Rattle.era_gate.specs.declared.parts.StripePart.{StripePart}
use Rattle.era_gate.specs.declared.states.StripeState.{StripeState}
use Rattle.era_model.specs.declared.entry.Entry.{Entry}
use Rattle.era_model.specs.declared.event.Event.{Event}
use Rattle.era_model.specs.declared.flight.FlightWrite.{FlightWrite}
use Rattle.era_model.specs.declared.opening.Opening.{Opening}
use Rattle.era_model.specs.History.{in_flight}
use Rattle.era_notes.specs.Notes.{Note, notes_of, own_history, entries_of, begun_of, least_of, CountsRise}
use Rattle.era_notes.specs.Rooms.{entries_in}
use Rattle.era_notes.specs.Windows.{HoldsThrough}
use Rattle.era_stripe.specs.declared.cut_write.CutWrite.{CutWrite}
use Rattle.era_stripe.specs.declared.stripe.Stripe.{Stripe}
use Rattle.era_stripe.specs.OwnEntries.{AreOwnLegal}
use Rattle.era_notes.specs.Parts.{Part, IsIn, IsPlace, HoldsContent, LeavesContent, part_sectors}

-- The part of a stripe.
abbrev pub part_of : {D : Type 0} → Stripe D → Part
part_of stripe = record { first = stripe.first_block; blocks = stripe.blocks; size = stripe.geometry.block_sectors }

-- A cut write of these bytes, as it is in flight.
abbrev pub cut_flight_of : CutWrite → List ℕ → FlightWrite
cut_flight_of cut bytes = record { id = cut.id; block = cut.block; first = cut.first; bytes = bytes; cut = true }

-- A write that is cut lies in a block of the part, its stripe is inside, and it is in flight, with as many bytes as its buffer has.
pub record IsCutWrite (geometry : Geometry) (part : Part) (cut : CutWrite) (seat : StripePart) : Type 0 where
  pub inside : seat.state.inside ≡ true
  pub bytes : List ℕ
  pub flight : seat.state.flight ≡ Some (cut_flight_of cut bytes)
  pub size : length bytes ≡ vec_len cut.buffer
  pub of_part : IsIn part cut.block
  pub place : IsPlace geometry cut.block cut.first (vec_len cut.buffer)

-- The write that is cut is the one in flight; where none is cut, none is in flight.
abbrev pub CutFits : Geometry → Part → Option CutWrite → StripePart → Type 0
CutFits geometry part None seat = seat.state.flight ≡ None
CutFits geometry part (Some cut) seat = IsCutWrite geometry part cut seat

-- A stripe fits together: its disk has just the sectors of its blocks, the seat is that of its index, the era is that of the present stay, and its cut write is the one in flight.
pub record StripeFits {D : Type 0} (disk : Ghosts D) (stripe : Stripe D) : Type 0 where
  pub size : disk.sectors stripe.disk ≡ part_sectors stripe.geometry stripe.first_block stripe.blocks
  pub seat : stripe.seat.part.stripe ≡ stripe.index
  pub era : stripe.seat.part.state.inside ≡ true → stripe.era ≡ stripe.seat.part.era
  pub cut : CutFits stripe.geometry (part_of stripe) stripe.cut stripe.seat.part

-- The seat of a stripe before any act.
pub record IsNewSeat (seat : StripePart) (index : ℕ) : Type 0 where
  pub number : seat.stripe ≡ index
  pub outside : seat.state.inside ≡ false
  pub idle : seat.state.flight ≡ None
  pub none : seat.state.entries ≡ []

-- Between commands a stripe is inside exactly where a write is cut.
abbrev pub IsAtRest : {D : Type 0} → Stripe D → Type 0
IsAtRest stripe = stripe.seat.part.state.inside ≡ is_some stripe.cut

-- What contracts see of a stripe: its part and index; the disk's history and count of faults, with the moment and the count at which the session began on it; its notes; what the gate knows of it; and the entries that it keeps.
pub record StripeView : Type 0 where
  pub part : Part
  pub geometry : Geometry
  pub index : ℕ
  pub history : History
  pub begun : ℕ
  pub least : ℕ
  pub faults : ℕ
  pub notes : List Note
  pub state : StripeState
  pub entries : List Entry

-- What contracts see of a stripe over such a disk.
abbrev pub view_of : {D : Type 0} → Ghosts D → Stripe D → StripeView
view_of disk stripe = record {
  part = part_of stripe;
  geometry = stripe.geometry;
  index = stripe.index;
  history = disk.history stripe.disk;
  begun = begun_of disk stripe.notes;
  least = least_of disk stripe.notes;
  faults = disk.faults stripe.disk;
  notes = notes_of disk stripe.notes;
  state = stripe.seat.part.state;
  entries = entries_in stripe.entries;
}

-- The stripe's part is one of the origin as it was opened.
pub record IsPartOf (opening : Opening) (geometry : Geometry) (part : Part) : Type 0 where
  pub sectors : opening.geometry.sectors ≡ geometry.sectors
  pub block_sectors : opening.geometry.block_sectors ≡ geometry.block_sectors
  pub size : part.size ≡ geometry.block_sectors
  pub blocks : part.first + part.blocks ≤ blocks_of geometry.sectors geometry.block_sectors

-- From the session's beginning on the disk up to now, at each moment between two entries, the part holds the content by the entries that were drawn by then, but for the bytes of the writes in flight.
abbrev pub HoldsItsContent : Opening → StripeView → Type 0
HoldsItsContent opening view =
    HoldsThrough (λ notes. HoldsContent view.part (own_history opening notes)) view.history view.begun (clock view.history) view.notes

-- From the session's beginning on the disk up to now, at each moment between two entries, each crash image of the part is, block by block, something that a crash may leave of the content by the entries that were drawn by then.
abbrev pub LeavesItsContent : Opening → StripeView → Type 0
LeavesItsContent opening view =
    HoldsThrough (λ notes. LeavesContent view.part (own_history opening notes)) view.history view.begun (clock view.history) view.notes

-- A stripe stands in a session that opened so: the part holds its content at each moment; the write in flight is the one that the gate knows; each entry met its conditions as far as own entries tell; counts of faults ascend; the entries are those of the seat; and their places ascend.
pub record ViewStands (tells : Bool) (opening : Opening) (view : StripeView) : Type 0 where
  pub part : IsPartOf opening view.geometry view.part
  pub through : tells ≡ true → HoldsItsContent opening view
  pub flights : in_flight (own_history opening view.notes) ≡ flights view.state.flight
  pub legal : AreOwnLegal tells view.part view.index opening view.notes
  pub counts : CountsRise view.least view.faults view.notes
  pub entries : entries_of view.notes ≡ view.state.entries
  pub kept : view.entries ≡ view.state.entries
  pub places : AscendFrom 0 view.state.entries

-- The record of a stripe. It is of the stripe's value alone, and holds before and after each call, whatever the call answered.
abbrev pub StripeStands : {D : Type 0} → Ghosts D → Opening → Stripe D → Type 0
StripeStands disk opening stripe = ViewStands disk.tells opening (view_of disk stripe)

-- What contracts see of a stripe after it drew an event at a place.
abbrev pub noted : StripeView → Event → ℕ → StripeView
noted view event place = record view {
  notes = record { entry = entry place event; moment = clock view.history; faults = view.faults } ∷ view.notes;
  state = stripe_with event place view.state;
  entries = view.entries ++ entry place event ∷ [];
}

-- What contracts see of a stripe that left the gate.
abbrev pub left : StripeView → StripeView
left view = record view { state = stripe_out view.state }

-- What contracts see of a stripe after device calls.
abbrev pub called : StripeView → History → ℕ → StripeView
called view history faults = record view { history = history; faults = faults }

-- A write is cut.
abbrev pub HasCut : {D : Type 0} → Stripe D → Type 0
HasCut stripe = is_some stripe.cut ≡ true
