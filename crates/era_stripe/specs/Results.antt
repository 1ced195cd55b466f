-- What each call of a stripe came to, by its result.
use Rattle.std.specs.Prelude.{◌≡◌, ◌⊎◌, ℕ, ◌/◌, ◌%◌, true, false, Bool, List, [], ◌∷◌, length, vec_len, Option, Some, None, Result, Ok, Err}
use Rattle.era_base.specs.CrashModel.{History, Stepped, Synced}
use Rattle.era_base.specs.Disk.{Reads, Syncs}
use Rattle.era_base.specs.declared.disk.Disk.{Ghosts}
use Rattle.era_base.specs.declared.ids.CmdId.{CmdId}
use Rattle.era_gate.specs.Calls.{GateToken, PassToken}
use Rattle.era_gate.specs.Passes.{KnowsEnded, no_write}
use Rattle.era_model.specs.declared.event.Event.{Event}
use Rattle.era_model.specs.declared.event.Event.TheVariants.{Go, Done, Cut, Settle, Unsettled, Read, Refused}
use Rattle.era_model.specs.declared.event.Kind.TheVariants.{Read as ReadKind}
use Rattle.era_model.specs.declared.event.Why.TheVariants.{DataFault}
use Rattle.era_model.specs.Events.{same_id}
use Rattle.era_model.specs.declared.opening.Opening.{Opening}
use Rattle.era_stripe.specs.declared.cut_write.CutWrite.{CutWrite}
use Rattle.era_stripe.specs.declared.stripe.Stripe.{Stripe}
use Rattle.era_stripe.specs.Calls.{Drew, IsNewCount, MayCall, MayHold, MayIssue}
use Rattle.era_notes.specs.Parts.{sector_in}
use Rattle.era_stripe.specs.Stripes.{StripeFits, StripeStands, IsAtRest, part_of}

-- A write may be made.
pub record MayWriteSeen {D : Type 0} (disk : Ghosts D) (gate : GateToken) (stripe : Stripe D) (pass : PassToken) (id : CmdId) (block first count : ℕ) : Type 0 where
  pub fits : StripeFits disk stripe
  pub call : MayCall gate stripe pass id 2
  pub issue : MayIssue stripe pass id block
  pub hold : MayHold stripe block first count

-- Whether a command is this one.
abbrev pub only : CmdId → CmdId → Bool
only id other = same_id id other

-- The events of a write: it was issued, and then acknowledged, or cut with the count of faults.
abbrev pub write_events : CmdId → ℕ → ℕ → ℕ → List ℕ → Result Unit ℕ → List Event
write_events id block era first bytes (Ok value) = Go id block era first bytes ∷ Done id ∷ []
write_events id block era first bytes (Err count) = Go id block era first bytes ∷ Cut id count ∷ []

-- A cut write's command, block and first sector.
pub record IsCutOf (cut : CutWrite) (id : CmdId) (block first count : ℕ) : Type 0 where
  pub of : cut.id ≡ id
  pub at : cut.block ≡ block
  pub from : cut.first ≡ first
  pub size : vec_len cut.buffer ≡ count

-- Where a write is cut, it is this one.
abbrev pub CutIs : Option CutWrite → CmdId → ℕ → ℕ → ℕ → Type 0
CutIs None id block first count = ⊥
CutIs (Some cut) id block first count = IsCutOf cut id block first count

-- After a write the stripe is outside, or its write is cut.
abbrev pub AfterWrite : {D : Type 0} → CmdId → ℕ → ℕ → ℕ → Result Unit ℕ → Stripe D → Type 0
AfterWrite id block first count (Ok value) stripe = (stripe.cut ≡ None) × (stripe.seat.part.state.inside ≡ false)
AfterWrite id block first count (Err error) stripe = CutIs stripe.cut id block first count × (stripe.seat.part.state.inside ≡ true)

-- A cut write may be resolved.
pub record MaySettleBy {D : Type 0} (disk : Ghosts D) (gate : GateToken) (stripe : Stripe D) (pass : PassToken) (by : CmdId) : Type 0 where
  pub fits : StripeFits disk stripe
  pub rest : IsAtRest stripe
  pub call : MayCall gate stripe pass by 1

-- A sync that answered Ok, and behind it a read with this result, are the only calls.
pub record SyncedAndRead {T E : Type 0} (first : ℕ) (buffer : List ℕ) (result : Result T E) (old new : History) : Type 0 where
  pub between : History
  pub time : Stepped old between
  pub synced : Synced old.now between.now
  pub read : Reads first buffer result between new

-- A sync, and a read exactly where it answered Ok, are the only calls: at Ok both answered so, otherwise the last one failed.
abbrev pub SyncsAndReads : ℕ → List ℕ → Result Unit ℕ → History → History → Type 0
SyncsAndReads first buffer (Ok value) old new = SyncedAndRead {T = Unit} {E = ℕ} first buffer (Ok value) old new
SyncsAndReads first buffer (Err count) old new =
    Syncs {T = Unit} {E = ℕ} (Err count) old new ⊎ SyncedAndRead {T = Unit} {E = ℕ} first buffer (Err count) old new

-- A cut write was resolved: the bytes that were read back of its sectors, behind a sync, are those of the event. The buffers of the command are still there.
pub record Resolved {D : Type 0} (disk : Ghosts D) (cut : CutWrite) (by : CmdId) (old new : Stripe D) (pass pass' : PassToken) : Type 0 where
  pub bytes : List ℕ
  pub size : length bytes ≡ vec_len cut.buffer
  pub drew : Drew (Settle by cut.id bytes ∷ []) no_write old new pass pass'
  pub told : disk.tells ≡ true → SyncsAndReads (sector_in (part_of old) cut.block cut.first) bytes (Ok tt) (disk.history old.disk) (disk.history new.disk)
  pub uncut : new.cut ≡ None
  pub outside : new.seat.part.state.inside ≡ false
  pub room : new.room ≡ old.room

-- A cut write couldn't be resolved: nothing was drawn, the write is still cut, and the sync failed, or the read behind it. The count rose since the last entry of a stripe that stands, so it may be drawn.
pub record Unresolved {D : Type 0} (disk : Ghosts D) (cut : CutWrite) (count : ℕ) (old new : Stripe D) (pass pass' : PassToken) : Type 0 where
  pub drew : Drew [] no_write old new pass pass'
  pub buffer : List ℕ
  pub told : disk.tells ≡ true → SyncsAndReads (sector_in (part_of old) cut.block cut.first) buffer (Err count) (disk.history old.disk) (disk.history new.disk)
  pub still_cut : CutIs new.cut cut.id cut.block cut.first (vec_len cut.buffer)
  pub seat : new.seat ≡ old.seat
  pub notes : new.notes ≡ old.notes
  pub room : new.room ≡ old.room
  pub risen : (opening : Opening) → StripeStands disk opening old → IsNewCount disk new count

-- No write is cut: nothing was drawn, and no device call made.
pub record HadNone {D : Type 0} (old new : Stripe D) (pass pass' : PassToken) : Type 0 where
  pub drew : Drew [] no_write old new pass pass'
  pub disk : new.disk ≡ old.disk
  pub seat : new.seat ≡ old.seat
  pub uncut : new.cut ≡ None
  pub notes : new.notes ≡ old.notes
  pub room : new.room ≡ old.room

-- What a settling came to, by the write that was cut and the result.
abbrev pub SettleDid : {D : Type 0} → Ghosts D → Option CutWrite → CmdId → Result Unit ℕ → Stripe D → Stripe D → PassToken → PassToken → Type 0
SettleDid disk None by (Ok value) old new pass pass' = HadNone old new pass pass'
SettleDid disk None by (Err count) old new pass pass' = ⊥
SettleDid disk (Some cut) by (Ok value) old new pass pass' = Resolved disk cut by old new pass pass'
SettleDid disk (Some cut) by (Err count) old new pass pass' = Unresolved disk cut count old new pass pass'

-- Calls that change nothing of a stripe's stay in the gate, and nothing of its cut write.
pub record SameStay {D : Type 0} (old new : Stripe D) : Type 0 where
  pub inside : new.seat.part.state.inside ≡ old.seat.part.state.inside
  pub flight : new.seat.part.state.flight ≡ old.seat.part.state.flight
  pub seen : new.seat.part.seen ≡ old.seat.part.seen
  pub era : new.era ≡ old.era
  pub cut : new.cut ≡ old.cut
  pub table : new.seat.table ≡ old.seat.table

-- A pass knows each stay of the stripe as ended, but for a present one.
abbrev pub Knows : {D : Type 0} → Stripe D → PassToken → Type 0
Knows stripe pass = KnowsEnded stripe.seat.part pass.part

-- Whole sectors of one block may be read, from a sector of the origin on.
pub record MayReadAt {D : Type 0} (disk : Ghosts D) (gate : GateToken) (stripe : Stripe D) (pass : PassToken) (id : CmdId) (sector count : ℕ) : Type 0 where
  pub fits : StripeFits disk stripe
  pub call : MayCall gate stripe pass id 1
  pub hold : MayHold stripe (sector / stripe.geometry.block_sectors) (sector % stripe.geometry.block_sectors) count

-- The event of a read: its bytes, or a refusal by a fault of the stripe's part.
abbrev pub read_events : CmdId → ℕ → ℕ → List ℕ → Result Unit ℕ → List Event
read_events id sector index bytes (Ok value) = Read id sector bytes ∷ []
read_events id sector index bytes (Err count) = Refused id ReadKind (DataFault index count) ∷ []

-- The cut write was passed over.
abbrev pub PassedOver : {D : Type 0} → Option CutWrite → CmdId → ℕ → Stripe D → Stripe D → PassToken → PassToken → Type 0
PassedOver None by count old new pass pass' = ⊥
PassedOver (Some cut) by count old new pass pass' = Drew (Unsettled by cut.id count ∷ []) no_write old new pass pass'
