-- The events of a request and of a read are some that it may have.
use Rattle.std.proofs.Common.{◌≡◌, ℕ, ◌+◌, List, ◌∷◌, Some, refl, ap, inl, inr, []}
use Rattle.era_base.specs.declared.disk.Disk.{Ghosts}
use Rattle.era_base.specs.declared.ids.CmdId.{CmdId}
use Rattle.era_model.specs.CommandEvents.{AreReadEvents, IsCheckpointEnd}
use Rattle.era_model.specs.History.{stripe_now}
use Rattle.era_model.specs.SessionRun.{AreRequestEvents}
use Rattle.era_model.specs.declared.command.Request.{Request}
use Rattle.era_model.specs.declared.command.Request.TheVariants.{Checkpoint, TakeSnap, DropSnap, Digest as DigestRequest, Status as StatusRequest, List as ListRequest}
use Rattle.era_model.specs.declared.event.Event.{Event}
use Rattle.era_model.specs.declared.event.Event.TheVariants.{Refused}
use Rattle.era_model.specs.declared.event.Kind.TheVariants.{Read as ReadKind}
use Rattle.era_model.specs.declared.event.Why.TheVariants.{DataFault}
use Rattle.era_model.specs.declared.history.Happening.{Happening}
use Rattle.era_model.specs.declared.reply.Answer.{Answer}
use Rattle.era_model.specs.declared.reply.Answer.TheVariants.{Blocks, Digest as DigestAnswer, End, EraIs, Fault, Fine, Found, Held, Idle, Kept, Memory, NoSnap, Snap as SnapAnswer, Status as StatusAnswer}
use Rattle.era_session.specs.Checkpoints.{AreCheckpointsEnd}
use Rattle.era_session.specs.Reads.{IsReadAnswer, read_events}
use Rattle.era_session.specs.Requests.{KeeperCalled, RequestWent, request_events}
use Rattle.era_session.specs.declared.session.Session.{Session}

-- a request that the keeper alone serves
pub request-events : {D : Type 0} (disk : Ghosts D) (h : List Happening) (id : CmdId) (request : Request) (answer : Answer) (old new : Session D) → KeeperCalled disk (RequestWent disk id request answer) answer old new
    → AreRequestEvents h id request (request_events id request answer)
request-events disk h id Checkpoint answer old new called = absurd called.did
request-events disk h id TakeSnap (SnapAnswer block) old new called = inl (block, refl)
request-events disk h id TakeSnap (Held block) old new called = inr (inl (block, refl))
request-events disk h id TakeSnap (Fault device count) old new called = inr (inr (count, refl))
request-events disk h id TakeSnap answer old new called = absurd called.did
request-events disk h id DropSnap Fine old new called = inl refl
request-events disk h id DropSnap NoSnap old new called = inr (inl refl)
request-events disk h id DropSnap (Fault device count) old new called = inr (inr (count, refl))
request-events disk h id DropSnap answer old new called = absurd called.did
request-events disk h id DigestRequest (DigestAnswer era page) old new called = inl (era, page, refl)
request-events disk h id DigestRequest Idle old new called = inr (inl refl)
request-events disk h id DigestRequest (Fault device count) old new called = inr (inr (count, refl))
request-events disk h id DigestRequest answer old new called = absurd called.did
request-events disk h id StatusRequest (StatusAnswer used total era held) old new called = inl (used, total, era, held, refl)
request-events disk h id StatusRequest (Fault device count) old new called = inr (count, refl)
request-events disk h id StatusRequest answer old new called = absurd called.did
request-events disk h id (ListRequest since snap) (Blocks runs) old new called = inl (runs, refl)
request-events disk h id (ListRequest since snap) NoSnap old new called = inr (inl (called.did.asked, refl))
request-events disk h id (ListRequest since snap) Memory old new called = inr (inr (inl refl))
request-events disk h id (ListRequest since snap) (Fault device count) old new called = inr (inr (inr (count, refl)))
request-events disk h id (ListRequest since snap) answer old new called = absurd called.did

-- how a checkpoint ends
pub checkpoint-end : (id : CmdId) (era : ℕ) (answer : Answer) (end : List Event) → AreCheckpointsEnd id era answer end → IsCheckpointEnd id end
checkpoint-end id era (EraIs next) end are = inl (next, are)
checkpoint-end id era (Kept inside) end are = inr (inr (inl (inside, are)))
checkpoint-end id era End end are = inr (inr (inr (inl are)))
checkpoint-end id era (Fault device count) end (inl are) = inr (inr (inr (inr (count, are))))
checkpoint-end id era (Fault device count) end (inr are) = inr (inl (era + 1, count, are))
checkpoint-end id era answer end are = absurd are

-- a read of sectors of one block
pub read-events : (h : List Happening) (id : CmdId) (sector count stripe : ℕ) (place : ℕ × ℕ) (answer : Answer) → stripe ≡ stripe_now h place.0 → IsReadAnswer count answer
    → AreReadEvents h id sector count (Some place) (read_events id sector stripe answer)
read-events h id sector count stripe place (Found bytes) of is = inr (bytes, refl, is)
read-events h id sector count stripe place (Fault device failed) of is = inl (failed, ap (λ n. Refused id ReadKind (DataFault n failed) ∷ []) of)
read-events h id sector count stripe place answer of is = absurd is
