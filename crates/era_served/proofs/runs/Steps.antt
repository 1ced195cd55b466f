-- A command that a session served has events that it may have, and the session still knows the stripes of its cut writes.
use Rattle.std.proofs.Common.{◌≡◌, ℕ, zero, suc, ◌/◌, List, ◌∷◌, ◌++◌, length, slice_get, slice_set, Option, Some, None, refl, sym, ap, ap₂, ◌∙◌, subst, inl, inr, []}
use Rattle.std.proofs.lemmas.Option.{none-some}
use Rattle.era_base.specs.Geometry.{blocks_of, place_at, stripe_blocks, stripe_of}
use Rattle.era_base.specs.declared.disk.Disk.{Ghosts}
use Rattle.era_base.specs.declared.geometry.Geometry.{Geometry}
use Rattle.era_base.specs.declared.ids.CmdId.{CmdId}
use Rattle.era_gate.specs.Receipts.{entries_in}
use Rattle.era_model.specs.CommandEvents.{AreCheckpointEvents, AreReadEvents, AreWriteEvents as MayWriteEvents, written_block, written_stripe}
use Rattle.era_model.specs.History.{blocks_at, stripe_now}
use Rattle.era_model.specs.Legal.{IsLegal}
use Rattle.era_model.specs.SessionRun.{AreRequestEvents, AreTaskEvents, place_now}
use Rattle.era_model.specs.declared.command.Request.{Request}
use Rattle.era_model.specs.declared.command.Request.TheVariants.{Checkpoint, TakeSnap, DropSnap, Digest as DigestRequest, Status as StatusRequest, List as ListRequest}
use Rattle.era_model.specs.declared.command.Task.{Task}
use Rattle.era_model.specs.declared.command.Task.TheVariants.{Write, Read, Ask}
use Rattle.era_model.specs.declared.event.Event.{Event}
use Rattle.era_model.specs.declared.history.Happening.{Happening}
use Rattle.era_model.specs.declared.history.Happening.TheVariants.{Opened}
use Rattle.era_model.specs.declared.journal.Journal.{Journal}
use Rattle.era_model.specs.declared.opening.Opening.{Opening}
use Rattle.era_model.specs.declared.reply.Answer.{Answer}
use Rattle.era_notes.specs.Rooms.{last_in}
use Rattle.era_keeper.specs.declared.keeper.Keeper.{Keeper}
use Rattle.era_served.proofs.runs.Cuts.{KnowsCuts, cuts-left, go-known, was-known, write-left}
use Rattle.era_served.proofs.runs.Histories.{go_after, opening-after}
use Rattle.era_served.proofs.runs.Requested.{checkpoint-end, read-events, request-events}
use Rattle.era_served.proofs.runs.Resolved.{resolved-below}
use Rattle.era_served.proofs.runs.Written.{after_events, write-events}
use Rattle.era_served.specs.Served.{history_of}
use Rattle.era_session.specs.AtStripes.{DidAt, FoundAt, WriteDid, session_place}
use Rattle.era_session.specs.Checkpoints.{CheckpointWent}
use Rattle.era_session.specs.Chunks.{stripe_trail, write_trail}
use Rattle.era_session.specs.Desks.{Desk}
use Rattle.era_session.specs.Reads.{ReadDid, read_events}
use Rattle.era_session.specs.Receipts.{events_in}
use Rattle.era_session.specs.Requests.{KeeperCalled, RequestDrew, RequestWent, request_events}
use Rattle.era_session.specs.Serving.{RequestDid, TaskDid}
use Rattle.era_session.specs.Sessions.{SessionFits, SessionStands}
use Rattle.era_session.specs.Trails.{block_trail, request_trail, session_trail, written_trail}
use Rattle.era_session.specs.declared.session.Session.{Session}
use Rattle.era_stripe.specs.Stripes.{StripeView}
use Rattle.era_stripe.specs.declared.stripe.Stripe.{Stripe}

-- places and stripes of a session are those of its history
pub record IsOver {D : Type 0} (h : List Happening) (session : Session D) : Type 0 where
  pub place : (sector count : ℕ) → place_now h sector count ≡ session_place session sector count
  pub stripe : (block : ℕ) → stripe_now h block ≡ block / session.each

pub is-over : {D : Type 0} (disk : Ghosts D) (journal : Journal) (session : Session D) → SessionFits disk session → SessionStands disk journal.opening session → IsOver (history_of journal) session
is-over disk journal session fits stands =
    let opening = journal.opening in
    record {
      place = λ sector count.
          opening-after None (λ (o : Opening). place_at o.geometry.sectors o.geometry.block_sectors sector count) (Opened opening ∷ []) journal.entries
          ∙ ap₂ (λ sectors size. place_at sectors size sector count) stands.sectors stands.block_sectors;
      stripe = λ block.
          opening-after 0 (λ (o : Opening). stripe_of (blocks_at o) o.stripes block) (Opened opening ∷ []) journal.entries
          ∙ ap₂ (λ blocks stripes. block / stripe_blocks blocks stripes) (ap₂ (λ sectors size. blocks_of sectors size) stands.sectors stands.block_sectors) stands.count
          ∙ ap (λ each. block / each) (sym fits.shared.each);
    }

-- the element that was put there
get-set : {A : Type 0} (xs : List A) (k : ℕ) (x y : A) → slice_get xs k ≡ Some x → slice_get (slice_set xs k y) k ≡ Some y
get-set [] k x y found = absurd (none-some x found)
get-set (first ∷ xs) zero x y found = refl
get-set (first ∷ xs) (suc k) x y found = get-set xs k x y found

-- the entries at the stripe that a command was at
at-stripe : {D : Type 0} (disk : Ghosts D) (block first : ℕ) (Did : Desk D → Desk D → Type 0) (old new : Session D) (did : DidAt disk (block / old.each) Did old new) → block_trail new (Some (block, first)) ≡ last_in did.after.stripe.entries
at-stripe {D} disk block first Did old new did =
    ap (λ (each : ℕ). stripe_trail (slice_get new.stripes.items (block / each))) did.left.plan.each
    ∙ ap (λ (all : List (Stripe D)). stripe_trail (slice_get all (block / old.each))) did.left.stripes
    ∙ ap stripe_trail (get-set old.stripes.items (block / old.each) did.found.stripe did.after.stripe did.found.found)

-- the stripe that a command was at has the number of its block
found-index : {D : Type 0} (disk : Ghosts D) (k : ℕ) (session : Session D) (desk : Desk D) → SessionFits disk session → FoundAt disk k session desk → desk.stripe.index ≡ k
found-index disk k session desk fits found =
    ap (λ (v : StripeView). v.index) found.admitted.view ∙ (fits.stripes k found.stripe found.found).index

-- what a command left of a session, with its events
pub record Stepped {D : Type 0} (h : List Happening) (May : List Event → Type 0) (events : List Event) (new : Session D) : Type 0 where
  pub may : May events
  pub knows : KnowsCuts h new

-- what is known of a command's events, whichever they are
pub record Known (h h0 : List Happening) (id : CmdId) (events : List Event) : Type 0 where
  pub written : written_block h id ≡ go_after None events
  pub legal : IsLegal (after_events h0 events)

-- a write
write-step : {D : Type 0} (disk : Ghosts D) (h h0 : List Happening) (place : Option (ℕ × ℕ)) (id : CmdId) (bytes : List ℕ) (answer : Answer) (old new : Session D) → SessionFits disk old → IsOver h old → KnowsCuts h old
    → WriteDid disk place id bytes answer old new → Known h h0 id (events_in (written_trail new place)) → Stepped h (MayWriteEvents h id bytes place) (events_in (written_trail new place)) new
write-step {D} disk h h0 None id bytes answer old new fits over knows did known = record { may = refl; knows = subst (λ (s : Session D). KnowsCuts h s) (sym did.1) knows }
write-step {D} disk h h0 (Some (block, first)) id bytes answer old new fits over knows did known =
    let drew = did.did.drew in
    let k : ℕ = block / old.each in
    let entries : written_trail new (Some (block, first)) ≡ entries_in drew.drew.receipts =
    ap₂ write_trail (at-stripe disk block first _ old new did) (ap (λ (it : Keeper D). last_in it.entries) did.left.keeper) ∙ sym drew.trail in
    let are : events_in (written_trail new (Some (block, first))) ≡ drew.events = ap events_in entries ∙ drew.drew.are in
    let own = subst (Known h h0 id) are known in
    let index : did.before.stripe.index ≡ stripe_now h block = found-index disk k old did.before fits did.found ∙ sym (over.stripe block) in
    record {
      may = subst (MayWriteEvents h id bytes (Some (block, first))) (sym are)
          (write-events h h0 id block first bytes answer did.before drew.events index
          (λ cut is. was-known disk h k old did.before cut did.found knows (cut, is, refl) ∙ ap (λ n. Some n) (sym (over.stripe block)))
          own.legal drew.are);
      knows = cuts-left h k did.after.stripe old new knows did.left.stripes (λ cut is.
          elim (write-left disk id block first bytes answer did.before did.after cut drew did.did.went is) [
            | inl mine ↦ ap (λ (it : CmdId). written_stripe h it) mine.0 ∙ go-known h k block id drew.events own.written mine.1 (over.stripe block)
            | inr was ↦ was-known disk h k old did.before cut did.found knows was
          ]);
    }

-- a read
read-step : {D : Type 0} (disk : Ghosts D) (h : List Happening) (place : Option (ℕ × ℕ)) (id : CmdId) (sector count : ℕ) (answer : Answer) (old new : Session D) → SessionFits disk old → IsOver h old → KnowsCuts h old
    → ReadDid disk place id sector count answer old new → Stepped h (AreReadEvents h id sector count place) (events_in (block_trail new place)) new
read-step {D} disk h None id sector count answer old new fits over knows did = record { may = refl; knows = subst (λ (s : Session D). KnowsCuts h s) (sym did.1) knows }
read-step {D} disk h (Some (block, first)) id sector count answer old new fits over knows did =
    let read = did.did in
    let k : ℕ = block / old.each in
    let are : events_in (block_trail new (Some (block, first))) ≡ read_events id sector did.before.stripe.index answer =
    ap events_in (at-stripe disk block first _ old new did ∙ sym read.trail) ∙ read.drew.are in
    let index : did.before.stripe.index ≡ stripe_now h block = found-index disk k old did.before fits did.found ∙ sym (over.stripe block) in
    record {
      may = subst (AreReadEvents h id sector count (Some (block, first))) (sym are) (read-events h id sector count did.before.stripe.index (block, first) answer index read.answers);
      knows = cuts-left h k did.after.stripe old new knows did.left.stripes (λ cut is. was-known disk h k old did.before cut did.found knows (cut, sym read.cut ∙ is, refl));
    }

-- a session with the same stripes
same-stripes : {D : Type 0} (h : List Happening) (old new : Session D) → new.stripes ≡ old.stripes → KnowsCuts h old → KnowsCuts h new
same-stripes {D} h old new same knows k stripe at cut is = knows k stripe (ap (λ all. slice_get all.items k) (sym same) ∙ at) cut is

-- a checkpoint
checkpoint-step : {D : Type 0} (disk : Ghosts D) (h : List Happening) (id : CmdId) (answer : Answer) (old new : Session D) → KnowsCuts h old → CheckpointWent disk id answer old new
    → Stepped h (AreCheckpointEvents h id) (events_in (request_trail new Checkpoint)) new
checkpoint-step disk h id answer old new knows went =
    let are : events_in (request_trail new Checkpoint) ≡ went.settling.events ++ went.end = ap events_in (sym went.trail) ∙ went.drew.are in
    let resolved = resolved-below disk h id (length old.stripes.items) went.settling.events old went.settled went.settling.below knows in
    record {
      may = subst (AreCheckpointEvents h id) (sym are) (record {
        before = went.settling.events;
        resolutions = resolved.are;
        rest = went.end;
        outcome = checkpoint-end id went.settled.keeper.meta.marks.era answer went.end went.ends;
        joined = refl;
      });
      knows = same-stripes h went.settled new went.keeper.stripes resolved.knows;
    }

-- another request
asked-step : {D : Type 0} (disk : Ghosts D) (h : List Happening) (id : CmdId) (request : Request) (answer : Answer) (old new : Session D) → KnowsCuts h old
    → KeeperCalled disk (RequestWent disk id request answer) answer old new → RequestDrew (request_events id request answer) old new
    → Stepped h (AreRequestEvents h id request) (events_in (last_in new.keeper.entries)) new
asked-step disk h id request answer old new knows called drew =
    let are : events_in (last_in new.keeper.entries) ≡ request_events id request answer = ap events_in (sym drew.trail) ∙ drew.drew.are in
    record {
      may = subst (AreRequestEvents h id request) (sym are) (request-events disk h id request answer old new called);
      knows = same-stripes h old new called.stripes knows;
    }

request-step : {D : Type 0} (disk : Ghosts D) (h : List Happening) (id : CmdId) (request : Request) (answer : Answer) (old new : Session D) → KnowsCuts h old → RequestDid disk id request answer old new
    → Stepped h (AreRequestEvents h id request) (events_in (request_trail new request)) new
request-step disk h id Checkpoint answer old new knows did = (let step = checkpoint-step disk h id answer old new knows did in record { may = step.may; knows = step.knows })
request-step disk h id TakeSnap answer old new knows did = asked-step disk h id TakeSnap answer old new knows did.0 did.1
request-step disk h id DropSnap answer old new knows did = asked-step disk h id DropSnap answer old new knows did.0 did.1
request-step disk h id DigestRequest answer old new knows did = asked-step disk h id DigestRequest answer old new knows did.0 did.1
request-step disk h id StatusRequest answer old new knows did = asked-step disk h id StatusRequest answer old new knows did.0 did.1
request-step disk h id (ListRequest since snap) answer old new knows did = asked-step disk h id (ListRequest since snap) answer old new knows did.0 did.1

-- whatever the command does
place-same : {D : Type 0} (old new : Session D) (sector count : ℕ) → new.geometry ≡ old.geometry → session_place new sector count ≡ session_place old sector count
place-same old new sector count same = ap (λ (g : Geometry). place_at g.sectors g.block_sectors sector count) same

pub task-step : {D : Type 0} (disk : Ghosts D) (h h0 : List Happening) (id : CmdId) (task : Task) (answer : Answer) (old new : Session D) → SessionFits disk old → IsOver h old → KnowsCuts h old → new.geometry ≡ old.geometry
    → TaskDid disk id task answer old new → Known h h0 id (events_in (session_trail new task)) → Stepped h (AreTaskEvents h id task) (events_in (session_trail new task)) new
task-step disk h h0 id (Write sector bytes) answer old new fits over knows same did known =
    let count : ℕ = length bytes / 512 in
    let place = session_place old sector count in
    let events : session_place new sector count ≡ place = place-same old new sector count same in
    let step = write-step disk h h0 place id bytes answer old new fits over knows did (subst (λ (p : Option (ℕ × ℕ)). Known h h0 id (events_in (written_trail new p))) events known) in
    record {
      may = subst (λ (p : Option (ℕ × ℕ)). MayWriteEvents h id bytes p (events_in (session_trail new (Write sector bytes)))) (sym (over.place sector count))
          (subst (λ (p : Option (ℕ × ℕ)). MayWriteEvents h id bytes place (events_in (written_trail new p))) (sym events) step.may);
      knows = step.knows;
    }
task-step disk h h0 id (Read sector count) answer old new fits over knows same did known =
    let place = session_place old sector count in
    let events : session_place new sector count ≡ place = place-same old new sector count same in
    let step = read-step disk h place id sector count answer old new fits over knows did in
    record {
      may = subst (λ (p : Option (ℕ × ℕ)). AreReadEvents h id sector count p (events_in (session_trail new (Read sector count)))) (sym (over.place sector count))
          (subst (λ (p : Option (ℕ × ℕ)). AreReadEvents h id sector count place (events_in (block_trail new p))) (sym events) step.may);
      knows = step.knows;
    }
task-step disk h h0 id (Ask request) answer old new fits over knows same did known =
    let step = request-step disk h id request answer old new knows did in
    record { may = step.may; knows = step.knows }
