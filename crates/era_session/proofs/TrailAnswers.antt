-- The answers that the events of a command fix are those that it was given.
use Rattle.std.proofs.Common.{◌≡◌, ℕ, List, [], ◌∷◌, ◌++◌, refl, sym, ap, ◌∙◌, inl, inr, Ok, Err}
use Rattle.era_base.specs.Flags.{has}
use Rattle.era_base.specs.declared.disk.Disk.{Ghosts}
use Rattle.era_base.specs.declared.ids.CmdId.{CmdId}
use Rattle.era_model.specs.Commands.{answer_after, answer_after_event}
use Rattle.era_model.specs.declared.command.Request.{Request}
use Rattle.era_model.specs.declared.command.Request.TheVariants.{Checkpoint, TakeSnap, DropSnap, Digest as DigestRequest, Status as StatusRequest, List as ListRequest}
use Rattle.era_model.specs.declared.entry.Entry.{Entry}
use Rattle.era_model.specs.declared.event.Event.{Event}
use Rattle.era_model.specs.declared.reply.Answer.{Answer}
use Rattle.era_model.specs.declared.reply.Answer.TheVariants.{Blocks, Digest as DigestAnswer, End, EraIs, Fault, Fine, Found, Held, Idle, Kept, Memory, NoSnap, Range, Snap as SnapAnswer, Status as StatusAnswer}
use Rattle.era_model.specs.declared.reply.Device.{Device}
use Rattle.era_model.specs.declared.reply.Device.TheVariants.{Data as DataDevice, Meta as MetaDevice}
use Rattle.era_session.specs.Checkpoints.{AreCheckpointsEnd}
use Rattle.era_session.specs.Desks.{Desk}
use Rattle.era_session.specs.Reads.{IsReadAnswer, read_events}
use Rattle.era_session.specs.Receipts.{events_in}
use Rattle.era_session.specs.Requests.{KeeperCalled, RequestWent, request_events}
use Rattle.era_session.specs.Trails.{with_places}
use Rattle.era_session.specs.Writes.{AreWriteEvents, IsFailedMarking, WroteEvents, marking_events}
use Rattle.era_session.specs.declared.session.Session.{Session}
use Rattle.era_keeper.specs.Results.{AnswersCount}
use Rattle.era_stripe.specs.Results.{write_events}

-- the answer after events, whatever their places
abbrev pub after : Answer → List Event → Answer
after before [] = before
after before (event ∷ events) = after (answer_after_event before event) events

pub after-placed : (before : Answer) (entries : List Entry) → answer_after before (with_places entries) ≡ after before (events_in entries)
after-placed before [] = refl
after-placed before (e ∷ entries) = after-placed (answer_after_event before e.event) entries

after-both : (before : Answer) (a b : List Event) → after before (a ++ b) ≡ after (after before a) b
after-both before [] b = refl
after-both before (event ∷ a) b = after-both (answer_after_event before event) a b

-- a fault of the one device
fault-of : (device other : Device) (count : ℕ) → device ≡ other → Fault other count ≡ Fault device count
fault-of device other count is = ap (λ (d : Device). Fault d count) (sym is)

-- a write
wrote-fine : {D : Type 0} (id : CmdId) (block first : ℕ) (bytes : List ℕ) (old : Desk D) (events : List Event) → WroteEvents id block first bytes (Ok tt) old events → after Range events ≡ Fine
wrote-fine id block first bytes old events are =
    let marks : List Event = marking_events (has old.keeper.meta.marks.current block) id block old.keeper.meta.marks.era in
    ap (after Range) are.joined ∙ after-both Range (are.before ++ marks) (write_events id block are.era first bytes (Ok tt))

wrote-cut : {D : Type 0} (id : CmdId) (block first count : ℕ) (bytes : List ℕ) (old : Desk D) (events : List Event) → WroteEvents id block first bytes (Err count) old events → after Range events ≡ Fault DataDevice count
wrote-cut id block first count bytes old events are =
    let marks : List Event = marking_events (has old.keeper.meta.marks.current block) id block old.keeper.meta.marks.era in
    ap (after Range) are.joined ∙ after-both Range (are.before ++ marks) (write_events id block are.era first bytes (Err count))

unmarked-fault : (before : Answer) (id : CmdId) (block era count : ℕ) (events : List Event) → IsFailedMarking id block era count events → after before events ≡ Fault MetaDevice count
unmarked-fault before id block era count events (inl is) = ap (after before) is
unmarked-fault before id block era count events (inr is) = ap (after before) is

pub write-answers : {D : Type 0} (id : CmdId) (block first : ℕ) (bytes : List ℕ) (answer : Answer) (old : Desk D) (events : List Event) → AreWriteEvents id block first bytes answer old events → after Range events ≡ answer
write-answers id block first bytes Fine old events are = wrote-fine id block first bytes old events are
write-answers id block first bytes (Fault DataDevice count) old events (inl are) = ap (after Range) are.refused
write-answers id block first bytes (Fault DataDevice count) old events (inr are) = wrote-cut id block first count bytes old events are
write-answers id block first bytes (Fault MetaDevice count) old events are =
    ap (after Range) are.joined ∙ after-both Range are.before are.rest ∙ unmarked-fault (after Range are.before) id block old.keeper.meta.marks.era count are.rest are.failed
write-answers id block first bytes answer old events are = absurd are

-- a read
pub read-answers : (id : CmdId) (sector stripe count : ℕ) (answer : Answer) → IsReadAnswer count answer → after Range (read_events id sector stripe answer) ≡ answer
read-answers id sector stripe count (Found bytes) is = refl
read-answers id sector stripe count (Fault device failed) is = fault-of device DataDevice failed is
read-answers id sector stripe count answer is = absurd is

-- a checkpoint at the keeper, behind what it drew at the stripes
pub end-answers : (before now era : ℕ) (id : CmdId) (answer : Answer) (settling end : List Event) → AreCheckpointsEnd id era answer end → AnswersCount before now answer → after Range (settling ++ end) ≡ answer
end-answers before now era id answer settling end are cause = after-both Range settling end ∙ ends (after Range settling) answer are cause
  where
    ends : (held answer : Answer) → AreCheckpointsEnd id era answer end → AnswersCount before now answer → after held end ≡ answer
    ends held (EraIs next) are cause = ap (after held) are
    ends held (Kept inside) are cause = ap (after held) are
    ends held End are cause = ap (after held) are
    ends held (Fault device count) (inl are) cause = ap (after held) are ∙ fault-of device MetaDevice count cause.0
    ends held (Fault device count) (inr are) cause = ap (after held) are ∙ fault-of device MetaDevice count cause.0
    ends held answer are cause = absurd are

-- another request
pub request-answers : {D : Type 0} (disk : Ghosts D) (id : CmdId) (request : Request) (answer : Answer) (old new : Session D) → KeeperCalled disk (RequestWent disk id request answer) answer old new → after Range (request_events id request answer) ≡ answer
request-answers disk id Checkpoint answer old new called = absurd called.did
request-answers disk id TakeSnap (SnapAnswer block) old new called = refl
request-answers disk id TakeSnap (Held block) old new called = refl
request-answers disk id TakeSnap (Fault device count) old new called = fault-of device MetaDevice count called.cause.0
request-answers disk id TakeSnap answer old new called = absurd called.did
request-answers disk id DropSnap Fine old new called = refl
request-answers disk id DropSnap NoSnap old new called = refl
request-answers disk id DropSnap (Fault device count) old new called = fault-of device MetaDevice count called.cause.0
request-answers disk id DropSnap answer old new called = absurd called.did
request-answers disk id DigestRequest (DigestAnswer era page) old new called = refl
request-answers disk id DigestRequest Idle old new called = refl
request-answers disk id DigestRequest (Fault device count) old new called = fault-of device MetaDevice count called.cause.0
request-answers disk id DigestRequest answer old new called = absurd called.did
request-answers disk id StatusRequest (StatusAnswer used total era held) old new called = refl
request-answers disk id StatusRequest (Fault device count) old new called = fault-of device MetaDevice count called.cause.0
request-answers disk id StatusRequest answer old new called = absurd called.did
request-answers disk id (ListRequest since snap) (Blocks runs) old new called = refl
request-answers disk id (ListRequest since snap) NoSnap old new called = refl
request-answers disk id (ListRequest since snap) Memory old new called = refl
request-answers disk id (ListRequest since snap) (Fault device count) old new called = fault-of device MetaDevice count called.cause.0
request-answers disk id (ListRequest since snap) answer old new called = absurd called.did
