-- Each event that a command's trail tells was drawn by the command.
use Rattle.std.proofs.Common.{◌≡◌, ℕ, zero, suc, Bool, true, false, List, [], ◌∷◌, ◌++◌, Option, Some, None, Result, Ok, Err, refl, sym, subst, inl, inr}
use Rattle.era_base.specs.Flags.{has}
use Rattle.era_base.specs.declared.disk.Disk.{Ghosts}
use Rattle.era_base.specs.declared.ids.CmdId.{CmdId}
use Rattle.era_gate.specs.Rule.{Each}
use Rattle.era_model.specs.Events.{drawn_by}
use Rattle.era_model.specs.declared.command.Request.{Request}
use Rattle.era_model.specs.declared.command.Request.TheVariants.{TakeSnap, DropSnap, Digest as DigestRequest, Status as StatusRequest, List as ListRequest}
use Rattle.era_model.specs.declared.entry.Entry.{Entry}
use Rattle.era_model.specs.declared.event.Event.{Event}
use Rattle.era_model.specs.declared.reply.Answer.{Answer}
use Rattle.era_model.specs.declared.reply.Answer.TheVariants.{Blocks, Digest as DigestAnswer, End, EraIs, Fault, Fine, Found, Held, Idle, Kept, Memory, NoSnap, Snap as SnapAnswer, Status as StatusAnswer}
use Rattle.era_model.specs.declared.reply.Device.TheVariants.{Data as DataDevice, Meta as MetaDevice}
use Rattle.era_session.specs.Checkpoints.{AreCheckpointsEnd, SettledBelow, settling_events}
use Rattle.era_session.specs.Desks.{Desk}
use Rattle.era_session.specs.Reads.{read_events}
use Rattle.era_session.specs.Receipts.{events_in}
use Rattle.era_session.specs.Requests.{request_events}
use Rattle.era_session.specs.Writes.{AreWriteEvents, IsFailedMarking, IsSettling, WroteEvents, marking_events}
use Rattle.era_session.specs.declared.session.Session.{Session}
use Rattle.era_stripe.specs.Results.{write_events}
use Rattle.era_stripe.specs.declared.cut_write.CutWrite.{CutWrite}

-- events that a command drew
abbrev pub AreOf : CmdId → List Event → Type 0
AreOf id events = Each (λ (event : Event). drawn_by event ≡ id) events

-- so are the events of entries
pub entries-of : (id : CmdId) (entries : List Entry) → AreOf id (events_in entries) → Each (λ (e : Entry). drawn_by e.event ≡ id) entries
entries-of id [] are = tt
entries-of id (e ∷ entries) are = (are.0, entries-of id entries are.1)

of-both : (id : CmdId) (a b : List Event) → AreOf id a → AreOf id b → AreOf id (a ++ b)
of-both id [] b one two = two
of-both id (event ∷ a) b one two = (one.0, of-both id a b one.1 two)

-- a write
of-settling : (cut : Option CutWrite) (id : CmdId) (events : List Event) → IsSettling cut id events → AreOf id events
of-settling None id events is = subst (AreOf id) (sym is) tt
of-settling (Some cut) id events is = subst (AreOf id) (sym is.2) (refl, tt)

of-marking : (marked : Bool) (id : CmdId) (block era : ℕ) → AreOf id (marking_events marked id block era)
of-marking true id block era = tt
of-marking false id block era = (refl, (refl, tt))

of-written : (id : CmdId) (block era first : ℕ) (bytes : List ℕ) (result : Result Unit ℕ) → AreOf id (write_events id block era first bytes result)
of-written id block era first bytes (Ok value) = (refl, (refl, tt))
of-written id block era first bytes (Err count) = (refl, (refl, tt))

of-failed : (id : CmdId) (block era count : ℕ) (events : List Event) → IsFailedMarking id block era count events → AreOf id events
of-failed id block era count events (inl is) = subst (AreOf id) (sym is) (refl, tt)
of-failed id block era count events (inr is) = subst (AreOf id) (sym is) (refl, (refl, tt))

of-wrote : {D : Type 0} (id : CmdId) (block first : ℕ) (bytes : List ℕ) (result : Result Unit ℕ) (old : Desk D) (events : List Event) → WroteEvents id block first bytes result old events → AreOf id events
of-wrote id block first bytes result old events are =
    let marks : List Event = marking_events (has old.keeper.meta.marks.current block) id block old.keeper.meta.marks.era in
    let own : List Event = write_events id block are.era first bytes result in
    subst (AreOf id) (sym are.joined)
    (of-both id (are.before ++ marks) own
    (of-both id are.before marks (of-settling old.stripe.cut id are.before are.settling) (of-marking (has old.keeper.meta.marks.current block) id block old.keeper.meta.marks.era))
    (of-written id block are.era first bytes result))

pub of-write : {D : Type 0} (id : CmdId) (block first : ℕ) (bytes : List ℕ) (answer : Answer) (old : Desk D) (events : List Event) → AreWriteEvents id block first bytes answer old events → AreOf id events
of-write id block first bytes Fine old events are = of-wrote id block first bytes (Ok tt) old events are
of-write id block first bytes (Fault DataDevice count) old events (inl are) = subst (AreOf id) (sym are.refused) (refl, tt)
of-write id block first bytes (Fault DataDevice count) old events (inr are) = of-wrote id block first bytes (Err count) old events are
of-write id block first bytes (Fault MetaDevice count) old events are =
    subst (AreOf id) (sym are.joined)
    (of-both id are.before are.rest (of-settling old.stripe.cut id are.before are.settling) (of-failed id block old.keeper.meta.marks.era count are.rest are.failed))
of-write id block first bytes answer old events are = absurd are

-- a read
pub of-read : (id : CmdId) (sector stripe : ℕ) (answer : Answer) → AreOf id (read_events id sector stripe answer)
of-read id sector stripe (Found bytes) = (refl, tt)
of-read id sector stripe (Fault device count) = (refl, tt)
of-read id sector stripe answer = tt

-- a checkpoint at the stripes
of-settled : (cut : Option CutWrite) (id : CmdId) (bytes : List ℕ) (result : Result Unit ℕ) → AreOf id (settling_events cut id bytes result)
of-settled None id bytes result = tt
of-settled (Some cut) id bytes (Ok value) = (refl, tt)
of-settled (Some cut) id bytes (Err count) = (refl, tt)

pub of-settlings : {D : Type 0} (disk : Ghosts D) (id : CmdId) (k : ℕ) (events : List Event) (old new : Session D) → SettledBelow disk id k events old new → AreOf id events
of-settlings disk id zero events old new below = subst (AreOf id) (sym below.1) tt
of-settlings disk id (suc k) events old new (between, before, own, below, at, is) =
    subst (AreOf id) (sym is)
    (of-both id before own (of-settlings disk id k before old between below)
    (subst (AreOf id) (sym at.did.events_are) (of-settled at.stripe.cut id at.did.bytes at.did.result)))

-- and at the keeper
pub of-end : (id : CmdId) (era : ℕ) (answer : Answer) (end : List Event) → AreCheckpointsEnd id era answer end → AreOf id end
of-end id era (EraIs next) end are = subst (AreOf id) (sym are) (refl, tt)
of-end id era (Kept inside) end are = subst (AreOf id) (sym are) (refl, tt)
of-end id era End end are = subst (AreOf id) (sym are) (refl, tt)
of-end id era (Fault device count) end (inl are) = subst (AreOf id) (sym are) (refl, tt)
of-end id era (Fault device count) end (inr are) = subst (AreOf id) (sym are) (refl, (refl, tt))
of-end id era answer end are = absurd are

pub of-checkpoint : (id : CmdId) (settling end : List Event) → AreOf id settling → AreOf id end → AreOf id (settling ++ end)
of-checkpoint id settling end one two = of-both id settling end one two

-- another request
pub of-request : (id : CmdId) (request : Request) (answer : Answer) → AreOf id (request_events id request answer)
of-request id TakeSnap (SnapAnswer block) = (refl, tt)
of-request id TakeSnap (Held block) = (refl, tt)
of-request id TakeSnap (Fault device count) = (refl, tt)
of-request id DropSnap Fine = (refl, tt)
of-request id DropSnap NoSnap = (refl, tt)
of-request id DropSnap (Fault device count) = (refl, tt)
of-request id DigestRequest (DigestAnswer era page) = (refl, tt)
of-request id DigestRequest Idle = (refl, tt)
of-request id DigestRequest (Fault device count) = (refl, tt)
of-request id StatusRequest (StatusAnswer used total era held) = (refl, tt)
of-request id StatusRequest (Fault device count) = (refl, tt)
of-request id (ListRequest since snap) (Blocks runs) = (refl, tt)
of-request id (ListRequest since snap) NoSnap = (refl, tt)
of-request id (ListRequest since snap) Memory = (refl, tt)
of-request id (ListRequest since snap) (Fault device count) = (refl, tt)
of-request id request answer = tt
