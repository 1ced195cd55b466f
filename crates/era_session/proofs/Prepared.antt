-- What preparing a session comes to, step by step: parts that were synced, the metadata opened behind them, and the session begun over both.
use Rattle.std.proofs.Common.{◌≡◌, ℕ, ◌<◌, ◌≤◌, Bool, true, false, List, [], length, map, Option, Some, None, slice_get, refl, sym, ap, ◌∙◌, subst, arith, inr}
use Rattle.std.specs.Prelude.{Result, Ok, Err, IfOk, IfErr, if◌then◌else◌}
use Rattle.std.specs.List.{concat}
use Rattle.std.proofs.lemmas.Option.{slice_get_within}
use Rattle.std.proofs.lemmas.List.{ext_get_or}
use Rattle.era_base.specs.CrashModel.{SameBut, State, clock, state_at}
use Rattle.era_base.specs.declared.disk.Disk.{Ghosts}
use Rattle.era_base.specs.declared.geometry.Geometry.{Geometry}
use Rattle.era_base.proofs.CrashImages.{continues-none}
use Rattle.era_base.proofs.Moments.{went-now}
use Rattle.era_gate.specs.Calls.{plan_of}
use Rattle.era_meta.specs.Starting.{IsBegun, Started, StartsSafely}
use Rattle.era_meta.specs.Trials.{start_trials}
use Rattle.era_meta.specs.declared.metadata.Meta.{Meta}
use Rattle.era_stripe.specs.declared.stripe.Stripe.{Stripe}
use Rattle.era_session.specs.Openings.{AreClean, AreParts, AreSynced, HasRoomFor, IsBegunOver, IsOpened, IsPrepared, IsRefusal, IsRefusedFor, IsSynced, IsUnbegun, IsUnopened, IsUnopenedFor, SyncsDid, metadata_disk, opening_of, origin_bytes, reads_as}
use Rattle.era_session.specs.Sessions.{SessionStands}
use Rattle.era_session.specs.declared.preparing.PrepareError.{PrepareError}
use Rattle.era_session.specs.declared.preparing.PrepareError.TheVariants.{Data, Meta as MetaRefused, Memory}
use Rattle.era_session.specs.declared.preparing.PrepareRefusal.{PrepareRefusal}
use Rattle.era_session.specs.declared.session.Session.{Session}
use Rattle.era_session.proofs.ListsInOrder.{is-there, maps-same}

-- a part of the synced ones, with what it was
pub record WasSynced {D : Type 0} (disk : Ghosts D) (old : List D) (k : ℕ) (after : D) : Type 0 where
  pub before : D
  pub found : slice_get old k ≡ Some before
  pub synced : IsSynced disk before after

was-synced : {D : Type 0} (disk : Ghosts D) (old new : List D) (k : ℕ) (after : D) → AreSynced disk old new → slice_get new k ≡ Some after → WasSynced disk old k after
was-synced disk old new k after are at =
    let low : k < length old = (let within = slice_get_within new k after at in omega (arith, within, are.count)) in
    let was = is-there old k low in
    record { before = was.0; found = was.1; synced = are.synced k was.0 after low was.1 at }

-- they are parts of the same origin, and clean
pub synced-parts : {D : Type 0} (disk : Ghosts D) (geometry : Geometry) (old new : List D) → AreSynced disk old new → AreParts disk geometry old → AreParts disk geometry new
synced-parts disk geometry old new are parts = record {
  split = rw are.count parts.split;
  sizes = λ k part at. let was = was-synced disk old new k part are at in rw are.count (was.synced.same.size ∙ parts.sizes k was.before was.found);
}

pub synced-clean : {D : Type 0} (disk : Ghosts D) (old new : List D) → AreSynced disk old new → AreClean disk new
synced-clean disk old new are k part at = (was-synced disk old new k part are at).synced.clean

pub synced-room : {D : Type 0} (disk : Ghosts D) (old new : List D) (stripes : List (Stripe D)) (capacity : ℕ) → AreSynced disk old new → stripes ≡ [] → length old ≤ capacity → HasRoomFor new stripes capacity
synced-room disk old new stripes capacity are none room = record { none = none; room = omega (arith, are.count, room) }

-- and they read as before
seen-same : (old new : State) → SameBut 0 0 old new → new.seen ≡ old.seen
seen-same old new same = ext_get_or 0 new.seen old.seen same.bytes (λ i low. same.seen i (λ above. omega arith))

either-bytes : (tells : Bool) (one two : List ℕ) → (tells ≡ true → one ≡ two) → ◌≡◌ {A = Option (List ℕ)} (if tells then Some one else None) (if tells then Some two else None)
either-bytes true one two same = ap (λ (bytes : List ℕ). Some bytes) (same refl)
either-bytes false one two same = refl

pub synced-bytes : {D : Type 0} (disk : Ghosts D) (old new : List D) → AreSynced disk old new → origin_bytes disk new ≡ origin_bytes disk old
synced-bytes disk old new are =
    either-bytes disk.tells (concat (map (reads_as disk) new)) (concat (map (reads_as disk) old))
    (λ told. ap concat (maps-same (reads_as disk) (reads_as disk) new old are.count
    (λ k after before at at'.
    let synced = are.synced k before after (slice_get_within old k before at') at' at in
    seen-same (disk.history before).now (disk.history after).now (went-now (SameBut 0 0) (disk.history before) (disk.history after) (synced.quiet told)))))

pub synced-stands : {D : Type 0} (disk : Ghosts D) (old new : List D) (result : Result (Session D) (PrepareRefusal D)) → AreSynced disk old new
    → IfOk result (λ session. SessionStands disk (opening_of disk new session) session) → IfOk result (λ session. SessionStands disk (opening_of disk old session) session)
synced-stands disk old new (Ok session) are stands =
    subst (λ (bytes : Option (List ℕ)). SessionStands disk (record (opening_of disk new session) { contents = record { bytes = bytes } }) session) (synced-bytes disk old new are) stands
synced-stands disk old new (Err refusal) are stands = tt

-- the session was begun over the metadata that was opened
pub over-opened : {D : Type 0} (disk : Ghosts D) (geometry : Geometry) (metadata : D) (parts : List D) (meta : Meta D) (result : Result (Session D) (PrepareRefusal D))
    → Started disk (start_trials geometry) metadata meta.slots.disk None → IsBegun disk geometry metadata meta → IfOk result (IsBegunOver geometry meta parts) → IfOk result (IsOpened disk geometry metadata parts)
over-opened {D} disk geometry metadata parts meta (Ok session) started begun over = record {
  started = subst (λ (m : Meta D). Started disk (start_trials geometry) metadata m.slots.disk None) (sym over.meta) started;
  begun = subst (λ (m : Meta D). IsBegun disk geometry metadata m) (sym over.meta) begun;
  over = record { meta = refl; disks = over.disks; geometry = over.geometry; plan = over.plan ∙ ap (λ (m : Meta D). plan_of geometry m.marks.era (length parts)) (sym over.meta); pass = over.pass; uncut = over.uncut };
}
over-opened disk geometry metadata parts meta (Err refusal) started begun over = tt

pub unbegun-unopened : {D : Type 0} (disk : Ghosts D) (geometry : Geometry) (metadata : D) (parts : List D) (meta : Meta D) (result : Result (Session D) (PrepareRefusal D))
    → Started disk (start_trials geometry) metadata meta.slots.disk None → IfErr result (IsUnbegun meta parts) → IfErr result (IsUnopened disk geometry metadata parts)
unbegun-unopened disk geometry metadata parts meta (Ok session) started unbegun = tt
unbegun-unopened {D} disk geometry metadata parts meta (Err refusal) started unbegun = record {
  cause = subst (λ (error : PrepareError). IsUnopenedFor disk geometry metadata error refusal.metadata) (sym unbegun.cause)
      (subst (λ (d : D). Started disk (start_trials geometry) metadata d None) (sym unbegun.disk) started);
  same = unbegun.same;
}

pub over-safely : {D : Type 0} (disk : Ghosts D) (geometry : Geometry) (metadata : D) (parts : List D) (meta : Meta D) (result : Result (Session D) (PrepareRefusal D))
    → StartsSafely disk geometry metadata meta.slots.disk → IfOk result (IsBegunOver geometry meta parts) → IfErr result (IsUnbegun meta parts) → StartsSafely disk geometry metadata (metadata_disk result)
over-safely {D} disk geometry metadata parts meta (Ok session) safely over unbegun = subst (λ (m : Meta D). StartsSafely disk geometry metadata m.slots.disk) (sym over.meta) safely
over-safely {D} disk geometry metadata parts meta (Err refusal) safely over unbegun = subst (λ (d : D). StartsSafely disk geometry metadata d) (sym unbegun.disk) safely

-- the metadata disk wasn't touched
pub safely-none : {D : Type 0} (disk : Ghosts D) (geometry : Geometry) (metadata : D) → StartsSafely disk geometry metadata metadata
safely-none disk geometry metadata = record {
  continues = λ told. continues-none (disk.history metadata);
  safely = λ told. record {
    synced = clock (disk.history metadata);
    first = omega arith;
    then_begun = omega arith;
    until = λ moment begun ended.
        let here : moment ≡ clock (disk.history metadata) = omega (arith, begun, ended) in
        subst (λ n. SameBut 0 0 (state_at (disk.history metadata) (clock (disk.history metadata))) (state_at (disk.history metadata) n)) (sym here)
        (record { bytes = refl; flags = refl; seen = λ offset out. refl; clean = λ offset out is. is });
    since = λ less. absurd (omega (arith, less));
  };
}

-- the whole
pub opened-prepared : {D : Type 0} (disk : Ghosts D) (geometry : Geometry) (metadata : D) (old new : List D) (result : Result (Session D) (PrepareRefusal D)) → AreSynced disk old new
    → IfOk result (IsOpened disk geometry metadata new) → IfOk result (IsPrepared disk geometry metadata old)
opened-prepared {D} disk geometry metadata old new (Ok session) are opened = record {
  synced = subst (λ (all : List D). AreSynced disk old all) (sym opened.over.disks) are;
  started = opened.started;
  begun = opened.begun;
  over = record {
    meta = refl;
    disks = refl;
    geometry = opened.over.geometry;
    plan = opened.over.plan ∙ ap (λ (all : List D). plan_of geometry session.keeper.meta.marks.era (length all)) (sym opened.over.disks);
    pass = opened.over.pass;
    uncut = opened.over.uncut;
  };
}
opened-prepared disk geometry metadata old new (Err refusal) are opened = tt

behind : {D : Type 0} (disk : Ghosts D) (geometry : Geometry) (metadata : D) (old : List D) (error : PrepareError) (refusal : PrepareRefusal D) → AreSynced disk old refusal.parts.items
    → IsUnopenedFor disk geometry metadata error refusal.metadata → IsRefusedFor disk geometry metadata old error refusal
behind disk geometry metadata old (Data k count) refusal are cause = absurd cause
behind disk geometry metadata old (MetaRefused error) refusal are cause = record { synced = are; started = cause }
behind disk geometry metadata old Memory refusal are cause = inr (record { synced = are; started = cause })

pub unopened-refused : {D : Type 0} (disk : Ghosts D) (geometry : Geometry) (metadata : D) (old new : List D) (result : Result (Session D) (PrepareRefusal D)) → AreSynced disk old new
    → IfErr result (IsUnopened disk geometry metadata new) → IfErr result (IsRefusal disk geometry metadata old)
unopened-refused disk geometry metadata old new (Ok session) are unopened = tt
unopened-refused {D} disk geometry metadata old new (Err refusal) are unopened =
    behind disk geometry metadata old refusal.error refusal (subst (λ (all : List D). AreSynced disk old all) (sym unopened.same) are) unopened.cause

pub unsynced-refused : {D : Type 0} (disk : Ghosts D) (geometry : Geometry) (metadata : D) (old : List D) (error : PrepareError) (refusal : PrepareRefusal D) → SyncsDid disk (Err error) old refusal.parts.items
    → refusal.metadata ≡ metadata → IsRefusedFor disk geometry metadata old error refusal
unsynced-refused disk geometry metadata old (Data k count) refusal did same = (did, same)
unsynced-refused disk geometry metadata old (MetaRefused error) refusal did same = absurd did
unsynced-refused disk geometry metadata old Memory refusal did same = absurd did
