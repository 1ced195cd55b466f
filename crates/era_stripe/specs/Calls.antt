-- What the calls of a stripe ask, and what they did: entries, receipts and device calls.
use Rattle.std.specs.Prelude.{◌≡◌, ℕ, ◌+◌, ◌<◌, ◌≤◌, true, false, Bool, List, [], ◌∷◌, ◌++◌, length, map, None}
use Rattle.era_base.specs.Faults.{Rose}
use Rattle.era_base.specs.declared.disk.Disk.{Ghosts}
use Rattle.era_base.specs.declared.ids.CmdId.{CmdId}
use Rattle.era_gate.specs.Calls.{GateToken, KeeperToken, PassToken, has_lane, has_gone, has_mark, has_seen, pass_draws, StripeAsks, PassAsks}
use Rattle.era_gate.specs.Passes.{KeepsPass, KnowsEnded, no_write}
use Rattle.era_gate.specs.Places.{AscendFrom, IsNextPlace}
use Rattle.era_gate.specs.StateAfter.{entry}
use Rattle.era_gate.specs.declared.parts.PassPart.{PassPart}
use Rattle.era_gate.specs.declared.parts.StripePart.{StripePart}
use Rattle.era_model.specs.declared.entry.Entry.{Entry}
use Rattle.era_model.specs.declared.event.Event.{Event}
use Rattle.era_notes.specs.Notes.{notes_of, first_device, last_faults, least_of}
use Rattle.era_notes.specs.Rooms.{entries_in, free_in, last_in, HoldBytes}
use Rattle.era_notes.specs.declared.chunks.Chunks.{Chunks}
use Rattle.era_stripe.specs.declared.stripe.Stripe.{Stripe}
use Rattle.era_notes.specs.Parts.{IsIn, IsPlace}
use Rattle.era_stripe.specs.Stripes.{StripeFits, part_of}

-- A command may draw so many events at a stripe: gate, seat and pass are of one table, the pass has the command's lane and that many draws, and the stripe has room for the entries.
pub record MayCall {D : Type 0} (gate : GateToken) (stripe : Stripe D) (pass : PassToken) (id : CmdId) (draws : ℕ) : Type 0 where
  pub table : stripe.seat.table ≡ gate.table
  pub pass_table : pass.table ≡ gate.table
  pub lane : has_lane id.lane pass.part.lanes ≡ true
  pub budget : draws ≤ pass.part.budget
  pub room : draws ≤ free_in stripe.entries

-- An event may be drawn at a stripe.
pub record MayNote {D : Type 0} (gate : GateToken) (stripe : Stripe D) (pass : PassToken) (event : Event) : Type 0 where
  pub table : stripe.seat.table ≡ gate.table
  pub pass_table : pass.table ≡ gate.table
  pub may : StripeAsks event stripe.seat.part pass.part.lanes
  pub asks : PassAsks event pass.part
  pub room : 0 < free_in stripe.entries

-- So many bytes are whole sectors of a block of the part, and the admitted room has buffers for them.
pub record MayHold {D : Type 0} (stripe : Stripe D) (block first count : ℕ) : Type 0 where
  pub of_part : IsIn (part_of stripe) block
  pub place : IsPlace stripe.geometry block first count
  pub buffers : HoldBytes count stripe.room

-- A write may be issued: no write is cut, the stripe is inside and saw the block's bit, and the pass has no receipt of a write of this command.
pub record MayIssue {D : Type 0} (stripe : Stripe D) (pass : PassToken) (id : CmdId) (block : ℕ) : Type 0 where
  pub uncut : stripe.cut ≡ None
  pub inside : stripe.seat.part.state.inside ≡ true
  pub saw : has_seen block stripe.seat.part.seen ≡ true
  pub once : has_gone id pass.part.lanes ≡ false

-- A pass after draws: it has their receipts.
abbrev pub after_draws : PassPart → List Entry → PassPart
after_draws pass [] = pass
after_draws pass (entry ∷ entries) = after_draws (pass_draws pass entry.event entry.place) entries

-- A seat drew one event: its place is the next one for the seat, the pass has its receipt, the entry is the latest of the last chunk, and the chunks have room for one entry less.
pub record DrewOne (event : Event) (place : ℕ) (issued : CmdId → Bool) (seat : StripePart) (old new : Chunks) (pass pass' : PassToken) : Type 0 where
  pub next : IsNextPlace place pass.part.floor seat.state.entries (seat.state.entries ++ entry place event ∷ [])
  pub lanes : pass'.part.lanes ≡ (pass_draws pass.part event place).lanes
  pub keeps : KeepsPass 1 issued pass pass'
  pub last : last_in new ≡ last_in old ++ entry place event ∷ []
  pub room : free_in new + 1 ≡ free_in old

-- A stripe left by a pass: the pass has the receipts that it had, and knows all stays of the stripe as ended.
pub record LeftBy (part : StripePart) (old new : PassToken) : Type 0 where
  pub lanes : new.part.lanes ≡ old.part.lanes
  pub keeps : KeepsPass 0 no_write old new
  pub knows : KnowsEnded part new.part

-- A stripe has kept entries of these events behind those that it had, and behind those of the last chunk. Their places ascend from a floor on.
pub record KeptEntries {D : Type 0} (events : List Event) (floor : ℕ) (old new : Stripe D) : Type 0 where
  pub entries : List Entry
  pub are : map (λ (entry : Entry). entry.event) entries ≡ events
  pub kept : entries_in new.entries ≡ entries_in old.entries ++ entries
  pub last : last_in new.entries ≡ last_in old.entries ++ entries
  pub ascend : AscendFrom floor entries
  pub room : free_in old.entries ≡ free_in new.entries + length events

-- A stripe drew these events, in order, and the pass has their receipts and no others.
pub record Drew {D : Type 0} (events : List Event) (issued : CmdId → Bool) (old new : Stripe D) (pass pass' : PassToken) : Type 0 where
  pub kept : KeptEntries events pass.part.floor old new
  pub receipts : pass'.part.lanes ≡ (after_draws pass.part kept.entries).lanes
  pub keeps : KeepsPass (length events) issued pass pass'

-- Blocks, index and the disk's place and size stay, and so does the device as the session began on it.
pub record SameStripe {D : Type 0} (disk : Ghosts D) (old new : Stripe D) : Type 0 where
  pub index : new.index ≡ old.index
  pub geometry : new.geometry ≡ old.geometry
  pub first_block : new.first_block ≡ old.first_block
  pub blocks : new.blocks ≡ old.blocks
  pub place : disk.place new.disk ≡ disk.place old.disk
  pub sectors : disk.sectors new.disk ≡ disk.sectors old.disk
  pub began : first_device new.notes ≡ first_device old.notes
  pub table : new.seat.table ≡ old.seat.table

-- A draw changes nothing of a stripe but its seat, its entries and its notes. The buffers that are left stay too.
pub record SameRest {D : Type 0} (old new : Stripe D) : Type 0 where
  pub disk : new.disk ≡ old.disk
  pub index : new.index ≡ old.index
  pub geometry : new.geometry ≡ old.geometry
  pub first_block : new.first_block ≡ old.first_block
  pub blocks : new.blocks ≡ old.blocks
  pub era : new.era ≡ old.era
  pub cut : new.cut ≡ old.cut
  pub began : first_device new.notes ≡ first_device old.notes
  pub room : new.room ≡ old.room

-- A count of faults is the present one of the disk, which rose since the stripe's last entry.
pub record IsNewCount {D : Type 0} (disk : Ghosts D) (stripe : Stripe D) (count : ℕ) : Type 0 where
  pub present : count ≡ disk.faults stripe.disk
  pub rose : Rose (last_faults (least_of disk stripe.notes) (notes_of disk stripe.notes)) count

-- A stripe may draw that its part failed.
pub record MayDrawFault {D : Type 0} (disk : Ghosts D) (gate : GateToken) (stripe : Stripe D) (pass : PassToken) (id : CmdId) : Type 0 where
  pub fits : StripeFits disk stripe
  pub call : MayCall gate stripe pass id 1

-- A stripe may enter.
pub record MayEnter {D : Type 0} (disk : Ghosts D) (gate : GateToken) (stripe : Stripe D) (pass : PassToken) (id : CmdId) : Type 0 where
  pub fits : StripeFits disk stripe
  pub outside : stripe.seat.part.state.inside ≡ false
  pub call : MayCall gate stripe pass id 0

-- A stripe may leave.
pub record MayLeave {D : Type 0} (disk : Ghosts D) (gate : GateToken) (stripe : Stripe D) (pass : PassToken) : Type 0 where
  pub fits : StripeFits disk stripe
  pub table : stripe.seat.table ≡ gate.table
  pub pass_table : pass.table ≡ gate.table
  pub inside : stripe.seat.part.state.inside ≡ true
  pub uncut : stripe.cut ≡ None

-- A stripe may be shown a mark: it is inside, and the keeper marked the block in the present era.
pub record MayBeShown {D : Type 0} (disk : Ghosts D) (gate : GateToken) (stripe : Stripe D) (keeper : KeeperToken) (block : ℕ) : Type 0 where
  pub fits : StripeFits disk stripe
  pub table : stripe.seat.table ≡ gate.table
  pub keeper_table : keeper.table ≡ gate.table
  pub inside : stripe.seat.part.state.inside ≡ true
  pub marked : has_mark block keeper.part.state.era keeper.part.state.entries ≡ true

-- Entering, looking and leaving change nothing of a stripe but its seat and its era.
pub record SameButStay {D : Type 0} (old new : Stripe D) : Type 0 where
  pub disk : new.disk ≡ old.disk
  pub index : new.index ≡ old.index
  pub geometry : new.geometry ≡ old.geometry
  pub first_block : new.first_block ≡ old.first_block
  pub blocks : new.blocks ≡ old.blocks
  pub cut : new.cut ≡ old.cut
  pub entries : new.entries ≡ old.entries
  pub notes : new.notes ≡ old.notes
  pub room : new.room ≡ old.room
