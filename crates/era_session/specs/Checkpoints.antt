-- What a checkpoint came to.
use Rattle.std.specs.Prelude.{◌≡◌, ◌⊎◌, ℕ, zero, suc, ◌+◌, ◌≤◌, true, List, [], ◌∷◌, ◌++◌, length, slice_get, slice_set, take, Option, Some, None, Result, Ok, Err}
use Rattle.era_base.specs.Faults.{HasCount}
use Rattle.era_base.specs.declared.disk.Disk.{Ghosts}
use Rattle.era_base.specs.declared.ids.CmdId.{CmdId}
use Rattle.era_gate.specs.Calls.{GateToken, PassToken, has_lane}
use Rattle.era_gate.specs.Passes.{no_write}
use Rattle.era_gate.specs.Receipts.{entries_in}
use Rattle.era_keeper.specs.Results.{CheckpointDid}
use Rattle.era_model.specs.declared.event.Event.{Event}
use Rattle.era_model.specs.declared.event.Event.TheVariants.{Kept, Refused, Roll, Settle, Unsettled}
use Rattle.era_model.specs.declared.event.Kind.TheVariants.{Checkpoint as CheckpointKind}
use Rattle.era_model.specs.declared.event.Why.TheVariants.{End as EndWhy, MetaFault}
use Rattle.era_model.specs.declared.reply.Answer.{Answer}
use Rattle.era_model.specs.declared.reply.Answer.TheVariants.{End, EraIs, Fault, Kept as KeptAnswer}
use Rattle.era_notes.specs.Rooms.{last_in}
use Rattle.era_session.specs.AtStripes.{IsAdmitted}
use Rattle.era_session.specs.Chunks.{stripes_trail}
use Rattle.era_session.specs.Receipts.{PassDrew}
use Rattle.era_session.specs.Requests.{KeeperCalled}
use Rattle.era_session.specs.Sessions.{SamePlan}
use Rattle.era_session.specs.declared.session.Session.{Session}
use Rattle.era_stripe.specs.Calls.{SameStripe}
use Rattle.era_stripe.specs.Results.{SettleDid}
use Rattle.era_stripe.specs.Stripes.{IsAtRest, StripeFits}
use Rattle.era_stripe.specs.declared.cut_write.CutWrite.{CutWrite}
use Rattle.era_stripe.specs.declared.stripe.Stripe.{Stripe}

-- The events of a checkpoint at a stripe: none where no write is cut; its resolution, or that it couldn't be resolved, with the part's count of faults.
abbrev pub settling_events : Option CutWrite → CmdId → List ℕ → Result Unit ℕ → List Event
settling_events None by bytes result = []
settling_events (Some cut) by bytes (Ok value) = Settle by cut.id bytes ∷ []
settling_events (Some cut) by bytes (Err count) = Unsettled by cut.id count ∷ []

-- A checkpoint may go over a stripe: the stripe fits together and is at rest, gate, seat and pass are of one table, and the pass has the command's lane and a draw.
pub record MaySettleAt {D : Type 0} (disk : Ghosts D) (gate : GateToken) (stripe : Stripe D) (pass : PassToken) (by : CmdId) : Type 0 where
  pub fits : StripeFits disk stripe
  pub rest : IsAtRest stripe
  pub table : stripe.seat.table ≡ gate.table
  pub pass_table : pass.table ≡ gate.table
  pub lane : has_lane by.lane pass.part.lanes ≡ true
  pub budget : 1 ≤ pass.part.budget

-- A checkpoint at a stripe: it was given its room, its cut write was resolved, or passed over where it couldn't be. The pass has the receipts of the entries in the stripe's last chunk.
pub record StripeSettled {D : Type 0} (disk : Ghosts D) (by : CmdId) (events : List Event) (old new : Stripe D) (pass pass' : PassToken) : Type 0 where
  pub before : Stripe D
  pub settled : Stripe D
  pub between : PassToken
  pub result : Result Unit ℕ
  pub bytes : List ℕ
  pub admitted : IsAdmitted disk old before
  pub settling : SettleDid disk old.cut by result before settled pass between
  pub events_are : events ≡ settling_events old.cut by bytes result
  pub left : (new.disk ≡ settled.disk) × (new.cut ≡ settled.cut)
  pub drew : PassDrew events no_write pass pass'
  pub trail : entries_in drew.receipts ≡ last_in new.entries
  pub cause : HasCount (disk.faults old.disk) (disk.faults new.disk) result

-- A checkpoint did this at one stripe of a session; all else stays.
pub record SettledAt {D : Type 0} (disk : Ghosts D) (by : CmdId) (k : ℕ) (events : List Event) (old new : Session D) : Type 0 where
  pub stripe : Stripe D
  pub after : Stripe D
  pub found : slice_get old.stripes.items k ≡ Some stripe
  pub did : StripeSettled disk by events stripe after old.pass new.pass
  pub stripes : new.stripes.items ≡ slice_set old.stripes.items k after
  pub keeper : new.keeper ≡ old.keeper
  pub plan : SamePlan old new
  pub same : SameStripe disk stripe after

-- A checkpoint went over the stripes below a number, one after the other, and drew these events, at most one a stripe.
abbrev pub SettledBelow : {D : Type 0} → Ghosts D → CmdId → ℕ → List Event → Session D → Session D → Type 0
SettledBelow disk by zero events old new = (new ≡ old) × (events ≡ [])
SettledBelow {D} disk by (suc k) events old new =
    (between : Session D) × (before own : List Event)
    × SettledBelow disk by k before old between × SettledAt disk by k own between new × (events ≡ before ++ own)

-- A checkpoint resolved or passed over the cut writes of the stripes below a number, and the pass has the receipts of the entries that they have of it.
pub record Settlings {D : Type 0} (disk : Ghosts D) (by : CmdId) (k : ℕ) (old new : Session D) : Type 0 where
  pub events : List Event
  pub below : SettledBelow disk by k events old new
  pub drew : PassDrew events no_write old.pass new.pass
  pub trail : entries_in drew.receipts ≡ stripes_trail (take k new.stripes.items)
  pub few : length events ≤ k

-- The events of a checkpoint at the keeper in an era, by its answer. Of a fault of the metadata disk, either this era couldn't be stored, or the next one, to which the session has moved.
abbrev pub AreCheckpointsEnd : CmdId → ℕ → Answer → List Event → Type 0
AreCheckpointsEnd id era (EraIs next) events = events ≡ Roll id next ∷ []
AreCheckpointsEnd id era (KeptAnswer inside) events = events ≡ Kept id inside ∷ []
AreCheckpointsEnd id era End events = events ≡ Refused id CheckpointKind EndWhy ∷ []
AreCheckpointsEnd id era (Fault device count) events =
    (events ≡ Refused id CheckpointKind (MetaFault count) ∷ [])
    ⊎ (events ≡ Roll id (era + 1) ∷ Refused id CheckpointKind (MetaFault count) ∷ [])
AreCheckpointsEnd id era answer events = ⊥

-- What a checkpoint came to: each stripe's cut write was resolved or passed over, and then the keeper did its part, by the answer.
pub record CheckpointWent {D : Type 0} (disk : Ghosts D) (id : CmdId) (answer : Answer) (old new : Session D) : Type 0 where
  pub settled : Session D
  pub settling : Settlings disk id (length old.stripes.items) old settled
  pub keeper : KeeperCalled disk (CheckpointDid disk id answer) answer settled new
  pub end : List Event
  pub ends : AreCheckpointsEnd id settled.keeper.meta.marks.era answer end
  pub drew : PassDrew (settling.events ++ end) no_write old.pass new.pass
  pub trail : entries_in drew.receipts ≡ stripes_trail new.stripes.items ++ last_in new.keeper.entries
