-- The trail of a command that was served: the entries of the receipts that the pass was given.
use Rattle.std.proofs.Common.{◌≡◌, ℕ, zero, suc, ◌/◌, ◌≤◌, List, [], ◌∷◌, ◌++◌, length, Option, Some, None, slice_get, slice_set, refl, sym, ap, ap₂, ◌∙◌, subst, arith, inl, inr}
use Rattle.std.proofs.lemmas.List.{length-append, length-map}
use Rattle.std.proofs.lemmas.Option.{none-some}
use Rattle.era_base.specs.Geometry.{place_at}
use Rattle.era_base.specs.declared.disk.Disk.{Ghosts}
use Rattle.era_base.specs.declared.geometry.Geometry.{Geometry}
use Rattle.era_base.specs.declared.ids.CmdId.{CmdId}
use Rattle.era_gate.specs.Calls.{PassToken}
use Rattle.era_gate.specs.Passes.{no_write}
use Rattle.era_gate.specs.Receipts.{entries_in}
use Rattle.era_gate.specs.Rule.{Each}
use Rattle.era_keeper.specs.declared.keeper.Keeper.{Keeper}
use Rattle.era_model.specs.Commands.{answer_of}
use Rattle.era_model.specs.Events.{drawn_by}
use Rattle.era_model.specs.declared.command.Request.{Request}
use Rattle.era_model.specs.declared.command.Request.TheVariants.{Checkpoint, TakeSnap, DropSnap, Digest as DigestRequest, Status as StatusRequest, List as ListRequest}
use Rattle.era_model.specs.declared.command.Task.{Task}
use Rattle.era_model.specs.declared.command.Task.TheVariants.{Write, Read, Ask}
use Rattle.era_model.specs.declared.entry.Entry.{Entry}
use Rattle.era_model.specs.declared.event.Event.{Event}
use Rattle.era_model.specs.declared.reply.Answer.{Answer}
use Rattle.era_model.specs.declared.reply.Answer.TheVariants.{Fault, Found, EraIs, Kept, End, Range}
use Rattle.era_notes.specs.Rooms.{last_in}
use Rattle.era_session.specs.AtStripes.{DidAt, WriteDid, session_place}
use Rattle.era_session.specs.Checkpoints.{AreCheckpointsEnd, CheckpointWent}
use Rattle.era_session.specs.Chunks.{stripe_trail, write_trail}
use Rattle.era_session.specs.Desks.{Desk}
use Rattle.era_session.specs.Reads.{ReadDid, read_events}
use Rattle.era_session.specs.Receipts.{PassDrew, events_in}
use Rattle.era_session.specs.Requests.{RequestDrew, request_event, request_events}
use Rattle.era_session.specs.Serving.{RequestDid, TaskDid}
use Rattle.era_session.specs.Sessions.{SessionFits}
use Rattle.era_session.specs.Trails.{LeavesTrail, block_trail, request_trail, session_trail, with_places, written_trail}
use Rattle.era_session.specs.declared.session.Session.{Session}
use Rattle.era_session.proofs.Receipts.{DrewTrail, trail-nothing, trail-wider}
use Rattle.era_session.proofs.Served.{at-most-one}
use Rattle.era_session.proofs.TrailAnswers.{after, after-placed, end-answers, read-answers, request-answers, write-answers}
use Rattle.era_session.proofs.TrailOwners.{AreOf, entries-of, of-checkpoint, of-end, of-read, of-request, of-settlings, of-write}
use Rattle.era_session.proofs.WriteAt.{few-events, keeps-none}
use Rattle.era_stripe.specs.Results.{only}
use Rattle.era_stripe.specs.declared.stripe.Stripe.{Stripe}

-- what a command left as its trail
pub record Left {D : Type 0} (id : CmdId) (answer : Answer) (trail : List Entry) (old new : Session D) : Type 0 where
  pub events : List Event
  pub drew : PassDrew events (only id) old.pass new.pass
  pub is : trail ≡ entries_in drew.receipts
  pub own : Each (λ (e : Entry). drawn_by e.event ≡ id) trail
  pub answers : answer_of (with_places trail) ≡ answer
  pub few : length trail ≤ 24

-- as many entries as events
as-many : (entries : List Entry) (events : List Event) → events_in entries ≡ events → length events ≤ 24 → length entries ≤ 24
as-many entries events are few =
    let same : length events ≡ length entries = ap (λ (es : List Event). length es) (sym are) ∙ length-map entries (λ (e : Entry). e.event) in
    omega (arith, same, few)

-- what a pass drew is what a command left
left-by : {D : Type 0} (id : CmdId) (answer : Answer) (events : List Event) (trail : List Entry) (old new : Session D) (a b : PassToken) → a ≡ old.pass → b ≡ new.pass → length events ≤ 24 → AreOf id events → after Range events ≡ answer
    → DrewTrail events trail (only id) a b → Left id answer trail old new
left-by id answer events trail old new a b first last few own answers drew =
    let here = subst (λ (p : PassToken). DrewTrail events trail (only id) p new.pass) first (subst (λ (p : PassToken). DrewTrail events trail (only id) a p) last drew) in
    record {
      events = events;
      drew = here.drew;
      is = sym here.are;
      own = entries-of id trail (subst (AreOf id) (sym (ap events_in (sym here.are) ∙ here.drew.are)) own);
      answers = after-placed Range trail ∙ ap (after Range) (ap events_in (sym here.are) ∙ here.drew.are) ∙ answers;
      few = as-many trail events (ap events_in (sym here.are) ∙ here.drew.are) few;
    }

-- nothing at all
left-nothing : {D : Type 0} (id : CmdId) (session : Session D) → Left id Range [] session session
left-nothing id session = left-by id Range [] [] session session session.pass session.pass refl refl (omega arith) tt refl (trail-nothing (only id) session.pass session.pass refl (keeps-none (only id) session.pass))

-- the element that was put there
get-set : {A : Type 0} (xs : List A) (k : ℕ) (x y : A) → slice_get xs k ≡ Some x → slice_get (slice_set xs k y) k ≡ Some y
get-set [] k x y found = absurd (none-some x found)
get-set (first ∷ xs) zero x y found = refl
get-set (first ∷ xs) (suc k) x y found = get-set xs k x y found

-- the entries at the stripe that a command was at
at-stripe : {D : Type 0} (disk : Ghosts D) (block first : ℕ) (Did : Desk D → Desk D → Type 0) (old new : Session D) (did : DidAt disk (block / old.each) Did old new) → block_trail new (Some (block, first)) ≡ last_in did.after.stripe.entries
at-stripe {D} disk block first Did old new did =
    ap (λ (each : ℕ). stripe_trail (slice_get new.stripes.items (block / each))) did.left.plan.each
    ∙ ap (λ (all : List (Stripe D)). stripe_trail (slice_get all (block / old.each))) did.left.stripes
    ∙ ap stripe_trail (get-set old.stripes.items (block / old.each) did.found.stripe did.after.stripe did.found.found)

-- a write
write-left : {D : Type 0} (disk : Ghosts D) (place : Option (ℕ × ℕ)) (id : CmdId) (bytes : List ℕ) (answer : Answer) (old new : Session D) → WriteDid disk place id bytes answer old new → Left id answer (written_trail new place) old new
write-left {D} disk None id bytes answer old new did = subst (λ (s : Session D). Left id answer [] old s) (sym did.1) (subst (λ (a : Answer). Left id a [] old old) (sym did.0) (left-nothing id old))
write-left {D} disk (Some (block, first)) id bytes answer old new did =
    let drew = did.did.drew in
    let is : written_trail new (Some (block, first)) ≡ write_trail (last_in did.after.stripe.entries) (last_in did.after.keeper.entries) =
    ap₂ write_trail (at-stripe disk block first _ old new did) (ap (λ (k : Keeper D). last_in k.entries) did.left.keeper) in
    subst (λ (trail : List Entry). Left id answer trail old new) (sym is)
    (left-by id answer drew.events _ old new did.before.pass did.after.pass did.found.pass (sym did.left.pass) (few-events id block first bytes answer did.before drew.events drew.are)
    (of-write id block first bytes answer did.before drew.events drew.are) (write-answers id block first bytes answer did.before drew.events drew.are)
    (record { drew = drew.drew; are = drew.trail }))

write-geometry : {D : Type 0} (disk : Ghosts D) (place : Option (ℕ × ℕ)) (id : CmdId) (bytes : List ℕ) (answer : Answer) (old new : Session D) → WriteDid disk place id bytes answer old new → new.geometry ≡ old.geometry
write-geometry {D} disk None id bytes answer old new did = ap (λ (s : Session D). s.geometry) did.1
write-geometry disk (Some (block, first)) id bytes answer old new did = did.left.plan.geometry

-- a read
few-read : (id : CmdId) (sector stripe : ℕ) (answer : Answer) → length (read_events id sector stripe answer) ≤ 24
few-read id sector stripe (Found bytes) = omega arith
few-read id sector stripe (Fault device count) = omega arith
few-read id sector stripe answer = omega arith

read-left : {D : Type 0} (disk : Ghosts D) (place : Option (ℕ × ℕ)) (id : CmdId) (sector count : ℕ) (answer : Answer) (old new : Session D) → ReadDid disk place id sector count answer old new → Left id answer (block_trail new place) old new
read-left {D} disk None id sector count answer old new did = subst (λ (s : Session D). Left id answer [] old s) (sym did.1) (subst (λ (a : Answer). Left id a [] old old) (sym did.0) (left-nothing id old))
read-left disk (Some (block, first)) id sector count answer old new did =
    let read = did.did in
    let events : List Event = read_events id sector did.before.stripe.index answer in
    subst (λ (trail : List Entry). Left id answer trail old new) (sym (at-stripe disk block first _ old new did))
    (left-by id answer events (last_in did.after.stripe.entries) old new did.before.pass did.after.pass did.found.pass (sym did.left.pass) (few-read id sector did.before.stripe.index answer)
    (of-read id sector did.before.stripe.index answer) (read-answers id sector did.before.stripe.index count answer read.answers)
    (trail-wider events _ no_write (only id) did.before.pass did.after.pass (λ other none. refl) (record { drew = read.drew; are = read.trail })))

read-geometry : {D : Type 0} (disk : Ghosts D) (place : Option (ℕ × ℕ)) (id : CmdId) (sector count : ℕ) (answer : Answer) (old new : Session D) → ReadDid disk place id sector count answer old new → new.geometry ≡ old.geometry
read-geometry {D} disk None id sector count answer old new did = ap (λ (s : Session D). s.geometry) did.1
read-geometry disk (Some (block, first)) id sector count answer old new did = did.left.plan.geometry

-- a checkpoint
few-end : (id : CmdId) (era : ℕ) (answer : Answer) (end : List Event) → AreCheckpointsEnd id era answer end → length end ≤ 2
few-end id era (EraIs next) end are = rw are (omega arith)
few-end id era (Kept inside) end are = rw are (omega arith)
few-end id era End end are = rw are (omega arith)
few-end id era (Fault device count) end (inl are) = rw are (omega arith)
few-end id era (Fault device count) end (inr are) = rw are (omega arith)
few-end id era answer end are = absurd are

checkpoint-left : {D : Type 0} (disk : Ghosts D) (id : CmdId) (answer : Answer) (old new : Session D) → SessionFits disk old → CheckpointWent disk id answer old new → Left id answer (request_trail new Checkpoint) old new
checkpoint-left disk id answer old new fits went =
    let events : List Event = went.settling.events ++ went.end in
    let ends = few-end id went.settled.keeper.meta.marks.era answer went.end went.ends in
    let few : length events ≤ 24 = rw (length-append went.settling.events went.end) (omega (arith, went.settling.few, ends, fits.shared.few, fits.shared.stripes)) in
    left-by id answer events _ old new old.pass new.pass refl refl few
    (of-checkpoint id went.settling.events went.end (of-settlings disk id (length old.stripes.items) went.settling.events old went.settled went.settling.below) (of-end id went.settled.keeper.meta.marks.era answer went.end went.ends))
    (end-answers _ _ went.settled.keeper.meta.marks.era id answer went.settling.events went.end went.ends went.keeper.cause)
    (trail-wider events _ no_write (only id) old.pass new.pass (λ other none. refl) (record { drew = went.drew; are = went.trail }))

-- another request
asked-left : {D : Type 0} (id : CmdId) (request : Request) (answer : Answer) (old new : Session D) → after Range (request_events id request answer) ≡ answer → RequestDrew (request_events id request answer) old new → Left id answer (last_in new.keeper.entries) old new
asked-left id request answer old new answers drew =
    let events : List Event = request_events id request answer in
    left-by id answer events _ old new old.pass new.pass refl refl (at-most-one (request_event id request answer)) (of-request id request answer) answers
    (trail-wider events _ no_write (only id) old.pass new.pass (λ other none. refl) (record { drew = drew.drew; are = drew.trail }))

request-left : {D : Type 0} (disk : Ghosts D) (id : CmdId) (request : Request) (answer : Answer) (old new : Session D) → SessionFits disk old → RequestDid disk id request answer old new → Left id answer (request_trail new request) old new
request-left disk id Checkpoint answer old new fits did = checkpoint-left disk id answer old new fits did
request-left disk id TakeSnap answer old new fits did = asked-left id TakeSnap answer old new (request-answers disk id TakeSnap answer old new did.0) did.1
request-left disk id DropSnap answer old new fits did = asked-left id DropSnap answer old new (request-answers disk id DropSnap answer old new did.0) did.1
request-left disk id DigestRequest answer old new fits did = asked-left id DigestRequest answer old new (request-answers disk id DigestRequest answer old new did.0) did.1
request-left disk id StatusRequest answer old new fits did = asked-left id StatusRequest answer old new (request-answers disk id StatusRequest answer old new did.0) did.1
request-left disk id (ListRequest since snap) answer old new fits did = asked-left id (ListRequest since snap) answer old new (request-answers disk id (ListRequest since snap) answer old new did.0) did.1

-- whatever the command does
as-left : {D : Type 0} (id : CmdId) (task : Task) (answer : Answer) (old new : Session D) → Left id answer (session_trail new task) old new → LeavesTrail id task answer old new
as-left id task answer old new left = record { events = left.events; drew = left.drew; trail = left.is; own = left.own; answers = left.answers; few = left.few }

place-same : {D : Type 0} (old new : Session D) (sector count : ℕ) → new.geometry ≡ old.geometry → session_place old sector count ≡ session_place new sector count
place-same old new sector count same = ap (λ (g : Geometry). place_at g.sectors g.block_sectors sector count) (sym same)

pub leaves-trail : {D : Type 0} (disk : Ghosts D) (id : CmdId) (task : Task) (answer : Answer) (old new : Session D) → SessionFits disk old → TaskDid disk id task answer old new → LeavesTrail id task answer old new
leaves-trail disk id (Write sector bytes) answer old new fits did =
    let count : ℕ = length bytes / 512 in
    let same = write-geometry disk (session_place old sector count) id bytes answer old new did in
    as-left id (Write sector bytes) answer old new
    (subst (λ (p : Option (ℕ × ℕ)). Left id answer (written_trail new p) old new) (place-same old new sector count same)
    (write-left disk (session_place old sector count) id bytes answer old new did))
leaves-trail disk id (Read sector count) answer old new fits did =
    let same = read-geometry disk (session_place old sector count) id sector count answer old new did in
    as-left id (Read sector count) answer old new
    (subst (λ (p : Option (ℕ × ℕ)). Left id answer (block_trail new p) old new) (place-same old new sector count same)
    (read-left disk (session_place old sector count) id sector count answer old new did))
leaves-trail disk id (Ask request) answer old new fits did = as-left id (Ask request) answer old new (request-left disk id request answer old new fits did)
