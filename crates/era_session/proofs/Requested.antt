-- Marks stand directly behind their requests among the receipts of each lane, whatever a command draws.
use Rattle.std.proofs.Common.{◌≡◌, ℕ, ◌==◌, Bool, true, false, cond, List, [], ◌∷◌, ◌++◌, map, filter, Option, None, Some, Result, Ok, Err, refl, sym, ap, ◌∙◌, subst, inl, inr}
use Rattle.std.proofs.lemmas.Bool.Decides.{eqb_tells}
use Rattle.std.proofs.lemmas.List.{map-append}
use Rattle.std.proofs.lemmas.Option.{none-some, same_Some}
use Rattle.era_base.specs.Flags.{has}
use Rattle.era_base.specs.declared.ids.CmdId.{CmdId}
use Rattle.era_gate.specs.Acts.{entry, lane_of}
use Rattle.era_gate.specs.Calls.{PassToken}
use Rattle.era_gate.specs.Receipts.{entries_for, entries_in}
use Rattle.era_gate.specs.Requests.{IsAskedBy, LanesAskForMarks, MarksStandBehindRequests}
use Rattle.era_gate.specs.declared.parts.LanePart.{LanePart}
use Rattle.era_gate.specs.declared.stays.Receipt.{Receipt}
use Rattle.era_gate.specs.declared.stays.Receipt.TheVariants.{OfEvent, OfStay}
use Rattle.era_model.specs.declared.command.Request.{Request}
use Rattle.era_model.specs.declared.command.Request.TheVariants.{TakeSnap, DropSnap, Digest as DigestRequest, Status as StatusRequest, List as ListRequest}
use Rattle.era_model.specs.declared.entry.Entry.{Entry}
use Rattle.era_model.specs.declared.event.Event.{Event}
use Rattle.era_model.specs.declared.event.Event.TheVariants.{Tried, Mark}
use Rattle.era_model.specs.declared.reply.Answer.{Answer}
use Rattle.era_model.specs.declared.reply.Answer.TheVariants.{Fine, Range, Fault, Found, EraIs, Kept, End, Snap, Held, NoSnap, Digest, Idle, Status, Blocks, Memory}
use Rattle.era_model.specs.declared.reply.Device.TheVariants.{Data as DataDevice, Meta as MetaDevice}
use Rattle.era_session.specs.Checkpoints.{AreCheckpointsEnd, settling_events}
use Rattle.era_session.specs.Desks.{Desk}
use Rattle.era_session.specs.Reads.{read_events}
use Rattle.era_session.specs.Receipts.{PassDrew, events_in, gets, receipt_lane}
use Rattle.era_session.specs.Requests.{request_events}
use Rattle.era_session.specs.Writes.{AreWriteEvents, IsFailedMarking, IsSettling, WroteEvents, marking_events}
use Rattle.era_session.proofs.Receipts.{entries-both}
use Rattle.era_stripe.specs.Results.{write_events}
use Rattle.era_stripe.specs.declared.cut_write.CutWrite.{CutWrite}

-- an event that stands behind none stands behind any
asked-any : (before : Option Event) (event : Event) → IsAskedBy None event → IsAskedBy before event
asked-any before (Mark id block era) asked = absurd (none-some (Tried id block era) asked)
asked-any before event asked = tt

behind-any : (before : Option Event) (entries : List Entry) → MarksStandBehindRequests None entries → MarksStandBehindRequests before entries
behind-any before [] stand = tt
behind-any before (e ∷ entries) stand = (asked-any before e.event stand.0, stand.1)

-- entries behind others
both-stand : (before : Option Event) (a b : List Entry) → MarksStandBehindRequests before a → MarksStandBehindRequests None b → MarksStandBehindRequests before (a ++ b)
both-stand before [] b stand next = behind-any before b next
both-stand before (e ∷ a) b stand next = (stand.0, both-stand (Some e.event) a b stand.1 next)

-- what the event before tells in a lane it tells of the lane's own
abbrev IsMine : ℕ → Option Event → Option Event → Type 0
IsMine l before mine = (event : Event) → before ≡ Some event → lane_of event ≡ l → mine ≡ Some event

asked-mine : (l : ℕ) (before mine : Option Event) (event : Event) → IsMine l before mine → l ≡ lane_of event → IsAskedBy before event → IsAskedBy mine event
asked-mine l before mine (Mark id block era) same is asked = same (Tried id block era) asked (sym is)
asked-mine l before mine event same is asked = tt

-- the entries of one lane
lane-stand : (l : ℕ) (before mine : Option Event) (entries : List Entry) → IsMine l before mine → MarksStandBehindRequests before entries → MarksStandBehindRequests mine (entries_for l entries)
lane-stand l before mine [] same stand = tt
lane-stand l before mine (e ∷ entries) same stand = elim (eqb_tells l (lane_of e.event)) [
  | inl is ↦ rw (is.0) (asked-mine l before mine e.event same is.1 stand.0, lane-stand l (Some e.event) (Some e.event) entries (λ event this lane. this) stand.1)
  | inr other ↦ rw (other.0)
      (lane-stand l (Some e.event) mine entries (λ event this lane. absurd (other.1 (sym lane ∙ sym (ap lane_of (same_Some e.event event this))))) stand.1)
]

-- the entries among the receipts for one lane
lane-entries : (l : ℕ) (receipts : List Receipt) → entries_in (filter (λ (receipt : Receipt). l == receipt_lane receipt) receipts) ≡ entries_for l (entries_in receipts)
lane-entries l [] = refl
lane-entries l (OfEvent e ∷ receipts) = on (l == lane_of e.event) (lane-entries l receipts)
  where
    rest : List Receipt
    rest = filter (λ (receipt : Receipt). l == receipt_lane receipt) receipts

    on : (mine : Bool) → entries_in rest ≡ entries_for l (entries_in receipts) → entries_in (cond mine (OfEvent e ∷ rest) rest) ≡ cond mine (e ∷ entries_for l (entries_in receipts)) (entries_for l (entries_in receipts))
    on true same = ap (λ (es : List Entry). e ∷ es) same
    on false same = same
lane-entries l (OfStay stay ∷ receipts) = on (l == stay.id.lane) (lane-entries l receipts)
  where
    rest : List Receipt
    rest = filter (λ (receipt : Receipt). l == receipt_lane receipt) receipts

    on : (mine : Bool) → entries_in rest ≡ entries_for l (entries_in receipts) → entries_in (cond mine (OfStay stay ∷ rest) rest) ≡ entries_for l (entries_in receipts)
    on true same = same
    on false same = same

-- a lane that gets receipts
lane-asked : (receipts : List Receipt) (part : LanePart) → MarksStandBehindRequests None (entries_in receipts) → MarksStandBehindRequests None (entries_in part.receipts)
    → MarksStandBehindRequests None (entries_in (gets receipts part).receipts)
lane-asked receipts part stand before =
    let mine : List Receipt = filter (λ (receipt : Receipt). part.lane == receipt_lane receipt) receipts in
    subst (MarksStandBehindRequests None)
    (sym (entries-both part.receipts mine ∙ ap (λ (es : List Entry). entries_in part.receipts ++ es) (lane-entries part.lane receipts)))
    (both-stand None (entries_in part.receipts) (entries_for part.lane (entries_in receipts)) before
    (lane-stand part.lane None None (entries_in receipts) (λ event this lane. absurd (none-some event this)) stand))

lanes-asked : (receipts : List Receipt) (lanes : List LanePart) → MarksStandBehindRequests None (entries_in receipts) → LanesAskForMarks lanes → LanesAskForMarks (map (gets receipts) lanes)
lanes-asked receipts [] stand before = tt
lanes-asked receipts (part ∷ lanes) stand before = (lane-asked receipts part stand before.0, lanes-asked receipts lanes stand before.1)

-- Among events each mark stands directly behind its request.
abbrev pub AskForMarks : List Event → Type 0
AskForMarks events = MarksStandBehindRequests None (map (entry 0) events)

of-events : (before : Option Event) (entries : List Entry) → MarksStandBehindRequests before (map (entry 0) (events_in entries)) → MarksStandBehindRequests before entries
of-events before [] stand = tt
of-events before (e ∷ entries) stand = (stand.0, of-events (Some e.event) entries stand.1)

pub ask-both : (a b : List Event) → AskForMarks a → AskForMarks b → AskForMarks (a ++ b)
ask-both a b one two = subst (MarksStandBehindRequests None) (sym (map-append (entry 0) a b)) (both-stand None (map (entry 0) a) (map (entry 0) b) one two)

-- a pass that drew such events
pub drew-asked : (events : List Event) (issued : CmdId → Bool) (a b : PassToken) → AskForMarks events → PassDrew events issued a b → LanesAskForMarks a.part.lanes → LanesAskForMarks b.part.lanes
drew-asked events issued a b ask drew before = subst LanesAskForMarks (sym drew.lanes)
    (lanes-asked drew.receipts a.part.lanes (of-events None (entries_in drew.receipts) (subst AskForMarks (sym drew.are) ask)) before)

-- a write
ask-settling : (cut : Option CutWrite) (id : CmdId) (events : List Event) → IsSettling cut id events → AskForMarks events
ask-settling None id events is = rw is tt
ask-settling (Some cut) id events is = rw (is.2) (tt, tt)

ask-marking : (marked : Bool) (id : CmdId) (block era : ℕ) → AskForMarks (marking_events marked id block era)
ask-marking true id block era = tt
ask-marking false id block era = (tt, (refl, tt))

ask-failed : (id : CmdId) (block era count : ℕ) (events : List Event) → IsFailedMarking id block era count events → AskForMarks events
ask-failed id block era count events (inl is) = rw is (tt, tt)
ask-failed id block era count events (inr is) = rw is (tt, (tt, tt))

ask-written : (id : CmdId) (block era first : ℕ) (bytes : List ℕ) (result : Result Unit ℕ) → AskForMarks (write_events id block era first bytes result)
ask-written id block era first bytes (Ok value) = (tt, (tt, tt))
ask-written id block era first bytes (Err count) = (tt, (tt, tt))

ask-wrote : {D : Type 0} (id : CmdId) (block first : ℕ) (bytes : List ℕ) (result : Result Unit ℕ) (old : Desk D) (events : List Event) → WroteEvents id block first bytes result old events → AskForMarks events
ask-wrote id block first bytes result old events are =
    let marks : List Event = marking_events (has old.keeper.meta.marks.current block) id block old.keeper.meta.marks.era in
    let own : List Event = write_events id block are.era first bytes result in
    let front = ask-both are.before marks (ask-settling old.stripe.cut id are.before are.settling) (ask-marking (has old.keeper.meta.marks.current block) id block old.keeper.meta.marks.era) in
    subst AskForMarks (sym are.joined) (ask-both (are.before ++ marks) own front (ask-written id block are.era first bytes result))

pub ask-write : {D : Type 0} (id : CmdId) (block first : ℕ) (bytes : List ℕ) (answer : Answer) (old : Desk D) (events : List Event) → AreWriteEvents id block first bytes answer old events → AskForMarks events
ask-write id block first bytes Fine old events are = ask-wrote id block first bytes (Ok tt) old events are
ask-write id block first bytes (Fault DataDevice count) old events (inl are) = rw (are.refused) (tt, tt)
ask-write id block first bytes (Fault DataDevice count) old events (inr are) = ask-wrote id block first bytes (Err count) old events are
ask-write id block first bytes (Fault MetaDevice count) old events are =
    subst AskForMarks (sym are.joined)
    (ask-both are.before are.rest (ask-settling old.stripe.cut id are.before are.settling) (ask-failed id block old.keeper.meta.marks.era count are.rest are.failed))
ask-write id block first bytes answer old events are = absurd are

-- a read
pub ask-read : (id : CmdId) (sector stripe : ℕ) (answer : Answer) → AskForMarks (read_events id sector stripe answer)
ask-read id sector stripe (Found bytes) = (tt, tt)
ask-read id sector stripe (Fault device count) = (tt, tt)
ask-read id sector stripe answer = tt

-- a checkpoint
pub ask-settled : (cut : Option CutWrite) (by : CmdId) (bytes : List ℕ) (result : Result Unit ℕ) → AskForMarks (settling_events cut by bytes result)
ask-settled None by bytes result = tt
ask-settled (Some cut) by bytes (Ok value) = (tt, tt)
ask-settled (Some cut) by bytes (Err count) = (tt, tt)

pub ask-end : (id : CmdId) (era : ℕ) (answer : Answer) (events : List Event) → AreCheckpointsEnd id era answer events → AskForMarks events
ask-end id era (EraIs next) events is = rw is (tt, tt)
ask-end id era (Kept inside) events is = rw is (tt, tt)
ask-end id era End events is = rw is (tt, tt)
ask-end id era (Fault device count) events (inl is) = rw is (tt, tt)
ask-end id era (Fault device count) events (inr is) = rw is (tt, (tt, tt))
ask-end id era answer events is = absurd is

-- another request
pub ask-request : (id : CmdId) (request : Request) (answer : Answer) → AskForMarks (request_events id request answer)
ask-request id TakeSnap (Snap block) = (tt, tt)
ask-request id TakeSnap (Held block) = (tt, tt)
ask-request id TakeSnap (Fault device count) = (tt, tt)
ask-request id DropSnap Fine = (tt, tt)
ask-request id DropSnap NoSnap = (tt, tt)
ask-request id DropSnap (Fault device count) = (tt, tt)
ask-request id DigestRequest (Digest era page) = (tt, tt)
ask-request id DigestRequest Idle = (tt, tt)
ask-request id DigestRequest (Fault device count) = (tt, tt)
ask-request id StatusRequest (Status used total era held) = (tt, tt)
ask-request id StatusRequest (Fault device count) = (tt, tt)
ask-request id (ListRequest since snap) (Blocks runs) = (tt, tt)
ask-request id (ListRequest since snap) NoSnap = (tt, tt)
ask-request id (ListRequest since snap) Memory = (tt, tt)
ask-request id (ListRequest since snap) (Fault device count) = (tt, tt)
ask-request id request answer = tt
