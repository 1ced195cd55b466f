-- What one command does to the counts of faults of a session's disks, and what its answer tells of them.
use Rattle.std.proofs.Common.{◌≡◌, ℕ, zero, suc, ◌/◌, ◌<◌, ◌≤◌, List, [], ◌∷◌, length, Option, Some, None, slice_get, slice_set, refl, sym, ap, ◌∙◌, subst, arith}
use Rattle.std.proofs.lemmas.List.{length-set}
use Rattle.std.proofs.lemmas.Option.{none-some, same_Some, slice_get_within}
use Rattle.era_base.specs.Faults.{Rose}
use Rattle.era_base.specs.declared.disk.Disk.{Ghosts}
use Rattle.era_base.specs.declared.ids.CmdId.{CmdId}
use Rattle.era_keeper.specs.Results.{AnswersCount}
use Rattle.era_keeper.specs.declared.keeper.Keeper.{Keeper}
use Rattle.era_meta.specs.declared.metadata.Meta.{Meta}
use Rattle.era_gate.specs.Calls.{PassToken}
use Rattle.era_model.specs.declared.command.Request.{Request}
use Rattle.era_model.specs.declared.command.Request.TheVariants.{Checkpoint, TakeSnap, DropSnap, Digest as DigestRequest, Status as StatusRequest, List as ListRequest}
use Rattle.era_model.specs.declared.command.Task.{Task}
use Rattle.era_model.specs.declared.command.Task.TheVariants.{Write, Read, Ask}
use Rattle.era_model.specs.declared.event.Event.{Event}
use Rattle.era_model.specs.declared.reply.Answer.{Answer}
use Rattle.era_model.specs.declared.reply.Answer.TheVariants.{Fault, Range}
use Rattle.era_model.specs.declared.reply.Device.TheVariants.{Data as DataDevice, Meta as MetaDevice}
use Rattle.era_served.specs.Counts.{EachCount, HasNotFallen, TellsFault, metadata_faults, stripe_of_place, stripe_of_task}
use Rattle.era_session.proofs.AtStripes.{at-set}
use Rattle.era_session.proofs.ListsInOrder.{is-there}
use Rattle.era_session.specs.AtStripes.{DidAt, WriteDid, WroteAt, session_place}
use Rattle.era_session.specs.Checkpoints.{CheckpointWent, SettledAt, SettledBelow}
use Rattle.era_session.specs.Desks.{AnswersCounts, Desk, meta_faults, part_faults}
use Rattle.era_session.specs.Reads.{ReadAt, ReadDid}
use Rattle.era_session.specs.Requests.{KeeperCalled}
use Rattle.era_session.specs.Serving.{RequestDid, TaskDid}
use Rattle.era_session.specs.declared.session.Session.{Session}
use Rattle.era_stripe.specs.declared.stripe.Stripe.{Stripe}

-- counts from moment to moment
rose-stays : (before now : ℕ) → Rose before now → HasNotFallen before now
rose-stays before now rose = omega (arith, rose)

pub same-stays : (before now : ℕ) → now ≡ before → HasNotFallen before now
same-stays before now same = omega (arith, same)

le-stays : (before now : ℕ) → before ≤ now → HasNotFallen before now
le-stays before now le = omega (arith, le)

stays-then : (a b c : ℕ) → HasNotFallen a b → HasNotFallen b c → HasNotFallen a c
stays-then a b c one two = omega (arith, one, two)

pub rose-then : (a b c : ℕ) → Rose a b → HasNotFallen b c → Rose a c
rose-then a b c one two = omega (arith, one, two)

then-rose : (a b c : ℕ) → HasNotFallen a b → Rose b c → Rose a c
then-rose a b c one two = omega (arith, one, two)

-- an element that was put into a list is there
set-there : {A : Type 0} (xs : List A) (k : ℕ) (x y : A) → slice_get xs k ≡ Some x → slice_get (slice_set xs k y) k ≡ Some y
set-there [] k x y at = absurd (none-some x at)
set-there (z ∷ xs) zero x y at = refl
set-there (z ∷ xs) (suc k) x y at = set-there xs k x y at

-- No disk's count fell, and there are as many stripes.
pub record StaysUp {D : Type 0} (disk : Ghosts D) (old new : Session D) : Type 0 where
  pub size : length new.stripes.items ≡ length old.stripes.items
  pub each : EachCount disk HasNotFallen old new

-- where stripes and keeper stay
pub kept-up : {D : Type 0} (disk : Ghosts D) (old new : Session D) → new.stripes.items ≡ old.stripes.items → HasNotFallen (metadata_faults disk old) (metadata_faults disk new) → StaysUp disk old new
kept-up {D} disk old new same metadata = record {
  size = ap length same;
  each = record {
    parts = λ k before after at there.
        let one : after ≡ before = same_Some after before (sym there ∙ ap (λ (xs : List (Stripe D)). slice_get xs k) same ∙ at) in
        same-stays (disk.faults before.disk) (disk.faults after.disk) (ap (λ (s : Stripe D). disk.faults s.disk) one);
    metadata = metadata;
  };
}

-- where one stripe is another
set-up : {D : Type 0} (disk : Ghosts D) (old new : Session D) (k : ℕ) (before after : Stripe D) → slice_get old.stripes.items k ≡ Some before → new.stripes.items ≡ slice_set old.stripes.items k after
    → HasNotFallen (disk.faults before.disk) (disk.faults after.disk) → HasNotFallen (metadata_faults disk old) (metadata_faults disk new) → StaysUp disk old new
set-up {D} disk old new k before after found is part metadata = record {
  size = ap length is ∙ length-set old.stripes.items k after;
  each = record {
    parts = λ j x z at there. at-set Up old.stripes.items k after
        (λ i s here y also. same-stays (disk.faults y.disk) (disk.faults s.disk) (ap (λ (t : Stripe D). disk.faults t.disk) (same_Some s y (sym here ∙ also))))
        (λ y also. subst (λ (t : Stripe D). HasNotFallen (disk.faults t.disk) (disk.faults after.disk)) (same_Some before y (sym found ∙ also)) part)
        j z (subst (λ (all : List (Stripe D)). slice_get all j ≡ Some z) is there) x at;
    metadata = metadata;
  };
}
  where
    Up : ℕ → Stripe D → Type 0
    Up i s = (y : Stripe D) → slice_get old.stripes.items i ≡ Some y → HasNotFallen (disk.faults y.disk) (disk.faults s.disk)

-- one after the other
pub up-then : {D : Type 0} (disk : Ghosts D) (a b c : Session D) → StaysUp disk a b → StaysUp disk b c → StaysUp disk a c
up-then disk a b c one two = record {
  size = two.size ∙ one.size;
  each = record {
    parts = λ k x z at there.
        let mid = is-there b.stripes.items k (rw one.size (slice_get_within a.stripes.items k x at)) in
        stays-then (disk.faults x.disk) (disk.faults mid.0.disk) (disk.faults z.disk) (one.each.parts k x mid.0 at mid.1) (two.each.parts k mid.0 z mid.1 there);
    metadata = stays-then (metadata_faults disk a) (metadata_faults disk b) (metadata_faults disk c) one.each.metadata two.each.metadata;
  };
}

pub up-itself : {D : Type 0} (disk : Ghosts D) (session : Session D) → StaysUp disk session session
up-itself disk session = kept-up disk session session refl (same-stays (metadata_faults disk session) (metadata_faults disk session) refl)

-- a fault that is told of two moments is one of an earlier and of a later moment
pub tells-earlier : {D : Type 0} (disk : Ghosts D) (task : Task) (answer : Answer) (a b c : Session D) → StaysUp disk a b → stripe_of_task b task ≡ stripe_of_task a task
    → TellsFault disk task answer b c → TellsFault disk task answer a c
tells-earlier disk task (Fault DataDevice count) a b c up place tells =
    let at = tells.2 in
    let first = is-there a.stripes.items tells.0 (subst (λ n. tells.0 < n) up.size (slice_get_within b.stripes.items tells.0 at.before at.found)) in (
      tells.0,
      sym place ∙ tells.1,
      record {
        before = first.0;
        after = at.after;
        found = first.1;
        left = at.left;
        relates = (then-rose (disk.faults first.0.disk) (disk.faults at.before.disk) count (up.each.parts tells.0 first.0 at.before first.1 at.found) at.relates.0, at.relates.1);
      },
    )
tells-earlier disk task (Fault MetaDevice count) a b c up place tells =
    (then-rose (metadata_faults disk a) (metadata_faults disk b) count up.each.metadata tells.0, tells.1)
tells-earlier disk task answer a b c up place tells = tt

pub tells-later : {D : Type 0} (disk : Ghosts D) (task : Task) (answer : Answer) (a b c : Session D) → StaysUp disk b c → TellsFault disk task answer a b → TellsFault disk task answer a c
tells-later disk task (Fault DataDevice count) a b c up tells =
    let at = tells.2 in
    let last = is-there c.stripes.items tells.0 (subst (λ n. tells.0 < n) (sym up.size) (slice_get_within b.stripes.items tells.0 at.after at.left)) in (
      tells.0,
      tells.1,
      record {
        before = at.before;
        after = last.0;
        found = at.found;
        left = last.1;
        relates = (at.relates.0, stays-then count (disk.faults at.after.disk) (disk.faults last.0.disk) at.relates.1 (up.each.parts tells.0 at.after last.0 at.left last.1));
      },
    )
tells-later disk task (Fault MetaDevice count) a b c up tells =
    (tells.0, stays-then count (metadata_faults disk b) (metadata_faults disk c) tells.1 up.each.metadata)
tells-later disk task answer a b c up tells = tt

-- What a command did to the counts, and what its answer tells of them.
pub record StepCounts {D : Type 0} (disk : Ghosts D) (task : Task) (answer : Answer) (old new : Session D) : Type 0 where
  pub up : StaysUp disk old new
  pub tells : TellsFault disk task answer old new

-- nothing was done
nothing-done : {D : Type 0} (disk : Ghosts D) (task : Task) (answer : Answer) (old new : Session D) → answer ≡ Range → new ≡ old → StepCounts disk task answer old new
nothing-done {D} disk task answer old new is same = record {
  up = subst (λ (s : Session D). StaysUp disk old s) (sym same) (up-itself disk old);
  tells = subst (λ (a : Answer). TellsFault disk task a old new) (sym is) tt;
}

-- counts at a stripe
desk-part : {D : Type 0} (disk : Ghosts D) (answer : Answer) (old new : Desk D) → AnswersCounts disk answer old new → HasNotFallen (part_faults disk old) (part_faults disk new)
desk-part disk (Fault DataDevice count) old new cause = rose-stays (part_faults disk old) (part_faults disk new) cause.1
desk-part disk (Fault MetaDevice count) old new cause = same-stays (part_faults disk old) (part_faults disk new) cause.2
desk-part disk answer old new cause = same-stays (part_faults disk old) (part_faults disk new) cause.0

desk-meta : {D : Type 0} (disk : Ghosts D) (answer : Answer) (old new : Desk D) → AnswersCounts disk answer old new → HasNotFallen (meta_faults disk old) (meta_faults disk new)
desk-meta disk (Fault DataDevice count) old new cause = same-stays (meta_faults disk old) (meta_faults disk new) cause.2
desk-meta disk (Fault MetaDevice count) old new cause = rose-stays (meta_faults disk old) (meta_faults disk new) cause.1
desk-meta disk answer old new cause = same-stays (meta_faults disk old) (meta_faults disk new) cause.1

-- A desk is of the session before and after a command at a stripe: these are its counts.
record DeskCounts {D : Type 0} (disk : Ghosts D) (k : ℕ) (before after : Desk D) (old new : Session D) : Type 0 where
  stripe : Stripe D
  found : slice_get old.stripes.items k ≡ Some stripe
  is : new.stripes.items ≡ slice_set old.stripes.items k after.stripe
  part : part_faults disk before ≡ disk.faults stripe.disk
  meta : meta_faults disk before ≡ metadata_faults disk old
  meta' : meta_faults disk after ≡ metadata_faults disk new

desk-counts : {D : Type 0} (disk : Ghosts D) (k : ℕ) (Did : Desk D → Desk D → Type 0) (old new : Session D) (did : DidAt disk k Did old new) → DeskCounts disk k did.before did.after old new
desk-counts {D} disk k Did old new did = record {
  stripe = did.found.stripe;
  found = did.found.found;
  is = did.left.stripes;
  part = ap (λ (d : D). disk.faults d) did.found.admitted.device;
  meta = ap (λ (m : Meta D). disk.faults m.slots.disk) did.found.keeper.meta;
  meta' = ap (λ (kept : Keeper D). disk.faults kept.meta.slots.disk) (sym did.left.keeper);
}

desk-up : {D : Type 0} (disk : Ghosts D) (k : ℕ) (answer : Answer) (before after : Desk D) (old new : Session D) → DeskCounts disk k before after old new → AnswersCounts disk answer before after → StaysUp disk old new
desk-up disk k answer before after old new counts cause = set-up disk old new k counts.stripe after.stripe counts.found counts.is
    (subst (λ n. HasNotFallen n (part_faults disk after)) counts.part (desk-part disk answer before after cause))
    (subst (λ n. HasNotFallen n (metadata_faults disk new)) counts.meta
    (subst (λ n. HasNotFallen (meta_faults disk before) n) counts.meta' (desk-meta disk answer before after cause)))

desk-tells : {D : Type 0} (disk : Ghosts D) (k : ℕ) (task : Task) (answer : Answer) (before after : Desk D) (old new : Session D) → DeskCounts disk k before after old new → stripe_of_task old task ≡ Some k
    → AnswersCounts disk answer before after → TellsFault disk task answer old new
desk-tells {D} disk k task (Fault DataDevice count) before after old new counts at cause = (
  k,
  at,
  record {
    before = counts.stripe;
    after = after.stripe;
    found = counts.found;
    left = subst (λ (all : List (Stripe D)). slice_get all k ≡ Some after.stripe) (sym counts.is) (set-there old.stripes.items k counts.stripe after.stripe counts.found);
    relates = (
      subst (λ n. Rose n count) counts.part (subst (λ n. Rose (part_faults disk before) n) (sym cause.0) cause.1),
      same-stays count (part_faults disk after) (sym cause.0),
    );
  },
)
desk-tells disk k task (Fault MetaDevice count) before after old new counts at cause = (
  subst (λ n. Rose n count) counts.meta (subst (λ n. Rose (meta_faults disk before) n) (sym cause.0) cause.1),
  same-stays count (metadata_faults disk new) (sym counts.meta' ∙ sym cause.0),
)
desk-tells disk k task answer before after old new counts at cause = tt

at-stripe : {D : Type 0} (disk : Ghosts D) (k : ℕ) (task : Task) (answer : Answer) (Did : Desk D → Desk D → Type 0) (old new : Session D) → stripe_of_task old task ≡ Some k
    → ((before after : Desk D) → Did before after → AnswersCounts disk answer before after) → DidAt disk k Did old new → StepCounts disk task answer old new
at-stripe disk k task answer Did old new at causes did =
    let counts = desk-counts disk k Did old new did in
    let cause = causes did.before did.after did.did in
    record {
      up = desk-up disk k answer did.before did.after old new counts cause;
      tells = desk-tells disk k task answer did.before did.after old new counts at cause;
    }

-- a write and a read, by their places
write-counts : {D : Type 0} (disk : Ghosts D) (place : Option (ℕ × ℕ)) (id : CmdId) (task : Task) (bytes : List ℕ) (answer : Answer) (old new : Session D) → stripe_of_task old task ≡ stripe_of_place old.each place
    → WriteDid disk place id bytes answer old new → StepCounts disk task answer old new
write-counts disk None id task bytes answer old new at did = nothing-done disk task answer old new did.0 did.1
write-counts disk (Some (block, first)) id task bytes answer old new at did =
    at-stripe disk (block / old.each) task answer (WroteAt disk id block first bytes answer) old new at (λ before after wrote. wrote.cause) did

read-counts : {D : Type 0} (disk : Ghosts D) (place : Option (ℕ × ℕ)) (id : CmdId) (task : Task) (sector count : ℕ) (answer : Answer) (old new : Session D) → stripe_of_task old task ≡ stripe_of_place old.each place
    → ReadDid disk place id sector count answer old new → StepCounts disk task answer old new
read-counts disk None id task sector count answer old new at did = nothing-done disk task answer old new did.0 did.1
read-counts disk (Some (block, first)) id task sector count answer old new at did =
    at-stripe disk (block / old.each) task answer (ReadAt disk id sector count answer) old new at (λ before after read. read.cause) did

-- a call of the keeper alone
called-count : (before now : ℕ) (answer : Answer) → AnswersCount before now answer → HasNotFallen before now
called-count before now (Fault device count) cause = rose-stays before now cause.2
called-count before now answer cause = same-stays before now cause

called-tells : {D : Type 0} (disk : Ghosts D) (asked : Request) (answer : Answer) (old new : Session D) → AnswersCount (metadata_faults disk old) (metadata_faults disk new) answer → TellsFault disk (Ask asked) answer old new
called-tells disk asked (Fault DataDevice count) old new cause = let same : DataDevice ≡ MetaDevice = cause.0 in absurd (cc)
called-tells disk asked (Fault MetaDevice count) old new cause = (
  subst (λ n. Rose (metadata_faults disk old) n) (sym cause.1) cause.2,
  same-stays count (metadata_faults disk new) (sym cause.1),
)
called-tells disk asked answer old new cause = tt

keeper-counts : {D : Type 0} (disk : Ghosts D) (asked : Request) (answer : Answer) (Did : Keeper D → Keeper D → PassToken → PassToken → Type 0) (old new : Session D) → KeeperCalled disk Did answer old new
    → StepCounts disk (Ask asked) answer old new
keeper-counts {D} disk asked answer Did old new called = record {
  up = kept-up disk old new (ap (λ xs. xs.items) called.stripes) (called-count (metadata_faults disk old) (metadata_faults disk new) answer called.cause);
  tells = called-tells disk asked answer old new called.cause;
}

-- a checkpoint at the stripes, one after the other
settled-up : {D : Type 0} (disk : Ghosts D) (by : CmdId) (k : ℕ) (events : List Event) (old new : Session D) → SettledAt disk by k events old new → StaysUp disk old new
settled-up {D} disk by k events old new at = set-up disk old new k at.stripe at.after at.found at.stripes
    (le-stays (disk.faults at.stripe.disk) (disk.faults at.after.disk) at.did.cause.cause.later)
    (same-stays (metadata_faults disk old) (metadata_faults disk new) (ap (λ (kept : Keeper D). disk.faults kept.meta.slots.disk) at.keeper))

below-up : {D : Type 0} (disk : Ghosts D) (by : CmdId) (k : ℕ) (events : List Event) (old new : Session D) → SettledBelow disk by k events old new → StaysUp disk old new
below-up {D} disk by zero events old new below = subst (λ (s : Session D). StaysUp disk old s) (sym below.0) (up-itself disk old)
below-up disk by (suc k) events old new (between, before, own, below, at, are) =
    up-then disk old between new (below-up disk by k before old between below) (settled-up disk by k own between new at)

checkpoint-counts : {D : Type 0} (disk : Ghosts D) (id : CmdId) (answer : Answer) (old new : Session D) → CheckpointWent disk id answer old new → StepCounts disk (Ask Checkpoint) answer old new
checkpoint-counts disk id answer old new went =
    let settled = went.settled in
    let before = below-up disk id (length old.stripes.items) went.settling.events old settled went.settling.below in
    let own = keeper-counts disk Checkpoint answer _ settled new went.keeper in
    record {
      up = up-then disk old settled new before own.up;
      tells = tells-earlier disk (Ask Checkpoint) answer old settled new before refl own.tells;
    }

request-counts : {D : Type 0} (disk : Ghosts D) (id : CmdId) (asked : Request) (answer : Answer) (old new : Session D) → RequestDid disk id asked answer old new → StepCounts disk (Ask asked) answer old new
request-counts disk id Checkpoint answer old new did = checkpoint-counts disk id answer old new did
request-counts disk id TakeSnap answer old new did = keeper-counts disk TakeSnap answer _ old new did.0
request-counts disk id DropSnap answer old new did = keeper-counts disk DropSnap answer _ old new did.0
request-counts disk id DigestRequest answer old new did = keeper-counts disk DigestRequest answer _ old new did.0
request-counts disk id StatusRequest answer old new did = keeper-counts disk StatusRequest answer _ old new did.0
request-counts disk id (ListRequest since snap) answer old new did = keeper-counts disk (ListRequest since snap) answer _ old new did.0

-- a command
pub task-counts : {D : Type 0} (disk : Ghosts D) (id : CmdId) (task : Task) (answer : Answer) (old new : Session D) → TaskDid disk id task answer old new → StepCounts disk task answer old new
task-counts disk id (Write sector bytes) answer old new did = write-counts disk (session_place old sector (length bytes / 512)) id (Write sector bytes) bytes answer old new refl did
task-counts disk id (Read sector count) answer old new did = read-counts disk (session_place old sector count) id (Read sector count) sector count answer old new refl did
task-counts disk id (Ask asked) answer old new did = request-counts disk id asked answer old new did
