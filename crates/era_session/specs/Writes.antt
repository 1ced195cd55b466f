-- What a write came to.
use Rattle.std.specs.Prelude.{◌≡◌, ◌⊎◌, ℕ, ◌<◌, ◌≤◌, true, false, Bool, List, [], ◌∷◌, ◌++◌, length, Result, Ok, Err, Option, Some, None, is_some, vec_len}
use Rattle.era_base.specs.Calls.{WritesThenSyncs}
use Rattle.era_base.specs.Flags.{has}
use Rattle.era_base.specs.declared.disk.Disk.{Ghosts}
use Rattle.era_base.specs.declared.ids.CmdId.{CmdId}
use Rattle.era_gate.specs.Calls.{GateToken, PassToken, has_gone, has_lane}
use Rattle.era_gate.specs.Passes.{no_write}
use Rattle.era_gate.specs.Receipts.{entries_in}
use Rattle.era_keeper.specs.Results.{MarkDid}
use Rattle.era_model.specs.declared.event.Event.{Event}
use Rattle.era_model.specs.declared.event.Event.TheVariants.{Tried, Mark, Settle, Refused}
use Rattle.era_model.specs.declared.event.Kind.TheVariants.{Write as WriteKind}
use Rattle.era_model.specs.declared.event.Why.TheVariants.{DataFault, MetaFault}
use Rattle.era_model.specs.declared.reply.Answer.{Answer}
use Rattle.era_model.specs.declared.reply.Answer.TheVariants.{Fault, Fine}
use Rattle.era_model.specs.declared.reply.Device.TheVariants.{Data as DataDevice, Meta as MetaDevice}
use Rattle.era_notes.specs.Parts.{sector_in}
use Rattle.era_notes.specs.Rooms.{free_in, last_in}
use Rattle.era_notes.specs.declared.room.TheConstants.{ROOM_ENTRIES}
use Rattle.era_session.specs.Chunks.{write_trail}
use Rattle.era_session.specs.Desks.{Desk, DeskFits}
use Rattle.era_session.specs.Receipts.{PassDrew}
use Rattle.era_stripe.specs.Calls.{Drew, MayHold, SameButStay}
use Rattle.era_stripe.specs.Results.{AfterWrite, SettleDid, only, write_events}
use Rattle.era_stripe.specs.Stripes.{part_of}
use Rattle.era_stripe.specs.declared.cut_write.CutWrite.{CutWrite}

-- A write may be made: stripe, keeper and pass fit together; the pass has the command's lane, draws enough, and no receipt of a write of this command; stripe and keeper have room for its entries and none of them yet, and the stripe for its bytes, which are whole sectors of a block of its own.
pub record MayWrite {D : Type 0} (disk : Ghosts D) (gate : GateToken) (desk : Desk D) (id : CmdId) (block first count : ℕ) : Type 0 where
  pub fits : DeskFits disk gate desk
  pub lane : has_lane id.lane desk.pass.part.lanes ≡ true
  pub budget : 24 ≤ desk.pass.part.budget
  pub once : has_gone id desk.pass.part.lanes ≡ false
  pub rooms : (ROOM_ENTRIES ≤ free_in desk.stripe.entries) × (ROOM_ENTRIES ≤ free_in desk.keeper.entries)
  pub undrawn : (last_in desk.stripe.entries ≡ []) × (last_in desk.keeper.entries ≡ [])
  pub of_origin : block < gate.plan.blocks
  pub hold : MayHold desk.stripe block first count

-- The events of a resolution: none where no write was cut, and otherwise the one of the cut write, with as many bytes as it had.
abbrev pub IsSettling : Option CutWrite → CmdId → List Event → Type 0
IsSettling None by events = events ≡ []
IsSettling (Some cut) by events = (bytes : List ℕ) × (length bytes ≡ vec_len cut.buffer) × (events ≡ Settle by cut.id bytes ∷ [])

-- The events of a marking that succeeds: none where the block has its mark of the present era, and otherwise the request and the mark.
abbrev pub marking_events : Bool → CmdId → ℕ → ℕ → List Event
marking_events true id block era = []
marking_events false id block era = Tried id block era ∷ Mark id block era ∷ []

-- The events of a write to a block: a resolution, the block's mark, and the write as it was acknowledged or cut.
pub record WroteEvents {D : Type 0} (id : CmdId) (block first : ℕ) (bytes : List ℕ) (result : Result Unit ℕ) (old : Desk D) (events : List Event) : Type 0 where
  pub era : ℕ
  pub before : List Event
  pub settling : IsSettling old.stripe.cut id before
  pub joined : events ≡ before
      ++ marking_events (has old.keeper.meta.marks.current block) id block old.keeper.meta.marks.era
      ++ write_events id block era first bytes result

-- A write is refused by a fault of the metadata disk: the present era couldn't be stored, or the block's mark couldn't.
abbrev pub IsFailedMarking : CmdId → ℕ → ℕ → ℕ → List Event → Type 0
IsFailedMarking id block era count events =
    (events ≡ Refused id WriteKind (MetaFault count) ∷ [])
    ⊎ (events ≡ Tried id block era ∷ Refused id WriteKind (MetaFault count) ∷ [])

-- The events of a write to a block that has no mark of the present era and got none: a resolution, and the refusal.
pub record UnmarkedEvents {D : Type 0} (id : CmdId) (block count : ℕ) (old : Desk D) (events : List Event) : Type 0 where
  pub unmarked : has old.keeper.meta.marks.current block ≡ false
  pub before : List Event
  pub settling : IsSettling old.stripe.cut id before
  pub rest : List Event
  pub failed : IsFailedMarking id block old.keeper.meta.marks.era count rest
  pub joined : events ≡ before ++ rest

-- An earlier write of the stripe is cut and couldn't be resolved.
pub record UnsettledEvents {D : Type 0} (id : CmdId) (count : ℕ) (old : Desk D) (events : List Event) : Type 0 where
  pub cut : is_some old.stripe.cut ≡ true
  pub refused : events ≡ Refused id WriteKind (DataFault old.stripe.index count) ∷ []

-- The events of a write to a block, by its answer.
abbrev pub AreWriteEvents : {D : Type 0} → CmdId → ℕ → ℕ → List ℕ → Answer → Desk D → List Event → Type 0
AreWriteEvents id block first bytes Fine old events = WroteEvents id block first bytes (Ok tt) old events
AreWriteEvents id block first bytes (Fault DataDevice count) old events =
    UnsettledEvents id count old events ⊎ WroteEvents id block first bytes (Err count) old events
AreWriteEvents id block first bytes (Fault MetaDevice count) old events = UnmarkedEvents id block count old events
AreWriteEvents id block first bytes answer old events = ⊥

-- A write drew its events, and the pass has their receipts: of the entries that stripe and keeper have of it, in their order.
pub record WriteDrew {D : Type 0} (id : CmdId) (block first : ℕ) (bytes : List ℕ) (answer : Answer) (old new : Desk D) : Type 0 where
  pub events : List Event
  pub are : AreWriteEvents id block first bytes answer old events
  pub drew : PassDrew events (only id) old.pass new.pass
  pub trail : entries_in drew.receipts ≡ write_trail (last_in new.stripe.entries) (last_in new.keeper.entries)

-- The stripe has resolved an earlier write, if one was cut: the one step of a command before it enters the gate.
pub record HasSettled {D : Type 0} (disk : Ghosts D) (id : CmdId) (result : Result Unit ℕ) (old new : Desk D) : Type 0 where
  pub did : SettleDid disk old.stripe.cut id result old.stripe new.stripe old.pass new.pass
  pub keeper : new.keeper ≡ old.keeper

-- The block's mark was asked for as the stripe had entered the gate; nothing of the stripe changed but its stay.
pub record HasAsked {D : Type 0} (disk : Ghosts D) (id : CmdId) (block : ℕ) (result : Result Unit ℕ) (old new : Desk D) : Type 0 where
  pub entered : PassToken
  pub entering : PassDrew [] no_write old.pass entered
  pub did : MarkDid disk (has old.keeper.meta.marks.current block) id block result old.keeper new.keeper entered new.pass
  pub stripe : SameButStay old.stripe new.stripe

-- The bytes were written to their sectors of the part and synced, and no write is cut; or this one is.
pub record HasWritten {D : Type 0} (disk : Ghosts D) (id : CmdId) (block first : ℕ) (bytes : List ℕ) (result : Result Unit ℕ) (old new : Desk D) : Type 0 where
  pub drew : Drew (write_events id block old.stripe.era first bytes result) (only id) old.stripe new.stripe old.pass new.pass
  pub told : disk.tells ≡ true
      → WritesThenSyncs (sector_in (part_of old.stripe) block first) bytes result (disk.history old.stripe.disk) (disk.history new.stripe.disk)
  pub after : AfterWrite id block first (length bytes) result new.stripe
  pub keeper : new.keeper ≡ old.keeper

-- A write went through all its steps, to this result of the last.
pub record WroteBlock {D : Type 0} (disk : Ghosts D) (id : CmdId) (block first : ℕ) (bytes : List ℕ) (result : Result Unit ℕ) (old new : Desk D) : Type 0 where
  pub settled : Desk D
  pub marked : Desk D
  pub settling : HasSettled disk id (Ok tt) old settled
  pub marking : HasAsked disk id block (Ok tt) settled marked
  pub writing : HasWritten disk id block first bytes result marked new

-- A write got no mark for its block: nothing was issued to the part behind the resolution.
pub record FailedToMark {D : Type 0} (disk : Ghosts D) (id : CmdId) (block count : ℕ) (old new : Desk D) : Type 0 where
  pub settled : Desk D
  pub settling : HasSettled disk id (Ok tt) old settled
  pub marking : HasAsked disk id block (Err count) settled new

-- A write was refused, since an earlier one couldn't be resolved, which is still cut: nothing else was done.
pub record FailedToSettle {D : Type 0} (disk : Ghosts D) (id : CmdId) (count : ℕ) (old new : Desk D) : Type 0 where
  pub settled : Desk D
  pub settling : HasSettled disk id (Err count) old settled
  pub refused : Drew (Refused id WriteKind (DataFault old.stripe.index count) ∷ []) no_write settled.stripe new.stripe settled.pass new.pass
  pub device : new.stripe.disk ≡ settled.stripe.disk
  pub cut : new.stripe.cut ≡ settled.stripe.cut
  pub keeper : new.keeper ≡ settled.keeper

-- Which steps a write made, each with its device calls, by its answer.
abbrev pub WriteWent : {D : Type 0} → Ghosts D → CmdId → ℕ → ℕ → List ℕ → Answer → Desk D → Desk D → Type 0
WriteWent disk id block first bytes Fine old new = WroteBlock disk id block first bytes (Ok tt) old new
WriteWent disk id block first bytes (Fault DataDevice count) old new =
    FailedToSettle disk id count old new ⊎ WroteBlock disk id block first bytes (Err count) old new
WriteWent disk id block first bytes (Fault MetaDevice count) old new = FailedToMark disk id block count old new
WriteWent disk id block first bytes answer old new = ⊥
