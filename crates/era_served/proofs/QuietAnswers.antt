-- The answers of commands where no device fails.
use Rattle.std.proofs.Common.{◌≡◌, ℕ, zero, suc, ◌/◌, Bool, false, List, [], ◌∷◌, length, Option, Some, None, refl, sym, ap, ◌∙◌, subst, arith}
use Rattle.std.specs.Prelude.{Contains}
use Rattle.std.proofs.lemmas.Bool.{false≢true}
use Rattle.era_base.specs.declared.disk.Disk.{Ghosts}
use Rattle.era_base.specs.declared.ids.CmdId.{CmdId}
use Rattle.era_base.specs.declared.geometry.Geometry.{Geometry}
use Rattle.era_gate.specs.Calls.{PassToken}
use Rattle.era_keeper.specs.Answers.{ListDid, StatusDid}
use Rattle.era_keeper.specs.Results.{CheckpointDid, DigestDid}
use Rattle.era_keeper.specs.SnapshotResults.{SnapDid, UnsnapDid}
use Rattle.era_keeper.specs.declared.keeper.Keeper.{Keeper}
use Rattle.era_model.specs.declared.command.Request.{Request}
use Rattle.era_model.specs.declared.command.Request.TheVariants.{Checkpoint, TakeSnap, DropSnap, Digest as DigestRequest, Status as StatusRequest, List as ListRequest}
use Rattle.era_model.specs.declared.command.Task.{Task}
use Rattle.era_model.specs.declared.command.Task.TheVariants.{Write, Read, Ask}
use Rattle.era_model.specs.declared.reply.Answer.{Answer}
use Rattle.era_model.specs.declared.reply.Answer.TheVariants.{Blocks, Digest as DigestAnswer, End, EraIs, Fault, Fine, Found, Held, Idle, Kept, Memory, NoSnap, Snap as SnapAnswer, Status as StatusAnswer}
use Rattle.era_served.specs.Counts.{IsReadAnswer, IsRequestAnswer, IsServedAnswer, IsWriteAnswer, tells_fault}
use Rattle.era_served.specs.Served.{HasServedAll, Served}
use Rattle.era_session.specs.AtStripes.{WriteDid, session_place}
use Rattle.era_session.specs.Desks.{Desk}
use Rattle.era_session.specs.Reads.{IsReadAnswer as IsBlockAnswer, ReadDid}
use Rattle.era_session.specs.Serving.{RequestDid, TaskDid}
use Rattle.era_session.specs.Writes.{WriteWent}
use Rattle.era_session.specs.declared.session.Session.{Session}

-- a write and a read at a stripe
wrote-fine : {D : Type 0} (disk : Ghosts D) (id : CmdId) (block first : ℕ) (bytes : List ℕ) (answer : Answer) (old new : Desk D) → tells_fault answer ≡ false → WriteWent disk id block first bytes answer old new → answer ≡ Fine
wrote-fine disk id block first bytes Fine old new quiet went = refl
wrote-fine disk id block first bytes (Fault device count) old new quiet went = absurd (false≢true (sym quiet))
wrote-fine disk id block first bytes answer old new quiet went = absurd went

read-found : (place : ℕ × ℕ) (count : ℕ) (answer : Answer) → tells_fault answer ≡ false → IsBlockAnswer count answer → IsReadAnswer (Some place) count answer
read-found place count (Found bytes) quiet is = (bytes, is, refl)
read-found place count (Fault device failed) quiet is = absurd (false≢true (sym quiet))
read-found place count answer quiet is = absurd is

write-answer : {D : Type 0} (disk : Ghosts D) (place : Option (ℕ × ℕ)) (id : CmdId) (bytes : List ℕ) (answer : Answer) (old new : Session D) → tells_fault answer ≡ false → WriteDid disk place id bytes answer old new → IsWriteAnswer place answer
write-answer disk None id bytes answer old new quiet did = did.0
write-answer disk (Some (block, first)) id bytes answer old new quiet did = wrote-fine disk id block first bytes answer did.before did.after quiet did.did.went

read-answer : {D : Type 0} (disk : Ghosts D) (place : Option (ℕ × ℕ)) (id : CmdId) (sector count : ℕ) (answer : Answer) (old new : Session D) → tells_fault answer ≡ false → ReadDid disk place id sector count answer old new
    → IsReadAnswer place count answer
read-answer disk None id sector count answer old new quiet did = did.0
read-answer disk (Some (block, first)) id sector count answer old new quiet did = read-found (block, first) count answer quiet did.did.answers

-- requests to the metadata
checkpoint-answer : {D : Type 0} (disk : Ghosts D) (id : CmdId) (answer : Answer) (old new : Keeper D) (pass pass' : PassToken) → tells_fault answer ≡ false → CheckpointDid disk id answer old new pass pass' → IsRequestAnswer Checkpoint answer
checkpoint-answer disk id (EraIs era) old new pass pass' quiet did = tt
checkpoint-answer disk id (Kept inside) old new pass pass' quiet did = tt
checkpoint-answer disk id End old new pass pass' quiet did = tt
checkpoint-answer disk id (Fault device count) old new pass pass' quiet did = absurd (false≢true (sym quiet))
checkpoint-answer disk id answer old new pass pass' quiet did = absurd did

snap-answer : {D : Type 0} (disk : Ghosts D) (id : CmdId) (answer : Answer) (old new : Keeper D) (pass pass' : PassToken) → tells_fault answer ≡ false → SnapDid disk id answer old new pass pass' → IsRequestAnswer TakeSnap answer
snap-answer disk id (SnapAnswer block) old new pass pass' quiet did = tt
snap-answer disk id (Held block) old new pass pass' quiet did = tt
snap-answer disk id (Fault device count) old new pass pass' quiet did = absurd (false≢true (sym quiet))
snap-answer disk id answer old new pass pass' quiet did = absurd did

unsnap-answer : {D : Type 0} (disk : Ghosts D) (id : CmdId) (answer : Answer) (old new : Keeper D) (pass pass' : PassToken) → tells_fault answer ≡ false → UnsnapDid disk id answer old new pass pass' → IsRequestAnswer DropSnap answer
unsnap-answer disk id Fine old new pass pass' quiet did = tt
unsnap-answer disk id NoSnap old new pass pass' quiet did = tt
unsnap-answer disk id (Fault device count) old new pass pass' quiet did = absurd (false≢true (sym quiet))
unsnap-answer disk id answer old new pass pass' quiet did = absurd did

digest-answer : {D : Type 0} (disk : Ghosts D) (id : CmdId) (answer : Answer) (old new : Keeper D) (pass pass' : PassToken) → tells_fault answer ≡ false → DigestDid disk id answer old new pass pass' → IsRequestAnswer DigestRequest answer
digest-answer disk id (DigestAnswer era page) old new pass pass' quiet did = tt
digest-answer disk id Idle old new pass pass' quiet did = tt
digest-answer disk id (Fault device count) old new pass pass' quiet did = absurd (false≢true (sym quiet))
digest-answer disk id answer old new pass pass' quiet did = absurd did

status-answer : {D : Type 0} (disk : Ghosts D) (id : CmdId) (answer : Answer) (old new : Keeper D) (pass pass' : PassToken) → tells_fault answer ≡ false → StatusDid disk id answer old new pass pass' → IsRequestAnswer StatusRequest answer
status-answer disk id (StatusAnswer used total era held) old new pass pass' quiet did = tt
status-answer disk id (Fault device count) old new pass pass' quiet did = absurd (false≢true (sym quiet))
status-answer disk id answer old new pass pass' quiet did = absurd did

list-answer : {D : Type 0} (disk : Ghosts D) (id : CmdId) (since : ℕ) (snap : Bool) (answer : Answer) (old new : Keeper D) (pass pass' : PassToken) → tells_fault answer ≡ false → ListDid disk id since snap answer old new pass pass'
    → IsRequestAnswer (ListRequest since snap) answer
list-answer disk id since snap (Blocks runs) old new pass pass' quiet did = tt
list-answer disk id since snap NoSnap old new pass pass' quiet did = tt
list-answer disk id since snap Memory old new pass pass' quiet did = tt
list-answer disk id since snap (Fault device count) old new pass pass' quiet did = absurd (false≢true (sym quiet))
list-answer disk id since snap answer old new pass pass' quiet did = absurd did

request-answer : {D : Type 0} (disk : Ghosts D) (id : CmdId) (asked : Request) (answer : Answer) (old new : Session D) → tells_fault answer ≡ false → RequestDid disk id asked answer old new → IsRequestAnswer asked answer
request-answer disk id Checkpoint answer old new quiet did = checkpoint-answer disk id answer did.keeper.before new.keeper did.settled.pass new.pass quiet did.keeper.did
request-answer disk id TakeSnap answer old new quiet did = snap-answer disk id answer did.0.before new.keeper old.pass new.pass quiet did.0.did
request-answer disk id DropSnap answer old new quiet did = unsnap-answer disk id answer did.0.before new.keeper old.pass new.pass quiet did.0.did
request-answer disk id DigestRequest answer old new quiet did = digest-answer disk id answer did.0.before new.keeper old.pass new.pass quiet did.0.did
request-answer disk id StatusRequest answer old new quiet did = status-answer disk id answer did.0.before new.keeper old.pass new.pass quiet did.0.did
request-answer disk id (ListRequest since snap) answer old new quiet did = list-answer disk id since snap answer did.0.before new.keeper old.pass new.pass quiet did.0.did

-- a command
task-answer : {D : Type 0} (disk : Ghosts D) (id : CmdId) (task : Task) (answer : Answer) (old new : Session D) → tells_fault answer ≡ false → TaskDid disk id task answer old new → IsServedAnswer old.geometry task answer
task-answer disk id (Write sector bytes) answer old new quiet did = write-answer disk (session_place old sector (length bytes / 512)) id bytes answer old new quiet did
task-answer disk id (Read sector count) answer old new quiet did = read-answer disk (session_place old sector count) id sector count answer old new quiet did
task-answer disk id (Ask asked) answer old new quiet did = request-answer disk id asked answer old new quiet did

-- commands one after the other
pub all-answered : {D : Type 0} (disk : Ghosts D) (served : List Served) (one : Served) (first last : Session D) → HasServedAll disk served first last → Contains served one → tells_fault one.answer ≡ false
    → IsServedAnswer first.geometry one.command.task one.answer
all-answered disk [] one first last all (k, low, is) quiet = absurd (omega (arith, low))
all-answered disk (other ∷ more) one first last (between, did, rest) (zero, low, is) quiet =
    let same : tells_fault other.answer ≡ false = ap (λ (s : Served). tells_fault s.answer) is ∙ quiet in
    subst (λ (s : Served). IsServedAnswer first.geometry s.command.task s.answer) is (task-answer disk other.command.id other.command.task other.answer first between same did.did)
all-answered disk (other ∷ more) one first last (between, did, rest) (suc k, low, is) quiet =
    subst (λ (g : Geometry). IsServedAnswer g one.command.task one.answer) did.same.plan.geometry
    (all-answered disk more one between last rest (k, omega (arith, low), is) quiet)
