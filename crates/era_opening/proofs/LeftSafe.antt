-- What a refused preparing did to the devices of a session, pair by pair.
use Rattle.std.proofs.Common.{◌≡◌, ◌≢◌, ℕ, zero, suc, ◌<◌, ◌⊎◌, inl, inr, List, ◌∷◌, length, Option, Some, slice_get, slice_set, refl, sym, ap, ◌∙◌, subst, arith}
use Rattle.std.specs.Prelude.{unwrap_or}
use Rattle.std.proofs.lemmas.Bool.{cases_lt, cases_order}
use Rattle.std.proofs.lemmas.List.{length-set}
use Rattle.era_base.specs.Calls.{EachMoment, SameDisk}
use Rattle.era_base.specs.CrashModel.{History, SameBut, State, Went}
use Rattle.era_base.specs.declared.disk.Disk.{Ghosts}
use Rattle.era_base.specs.declared.geometry.Geometry.{Geometry}
use Rattle.era_base.proofs.Moments.{went-none}
use Rattle.era_meta.specs.Starting.{IsFault, StartedIn, StartsSafely}
use Rattle.era_meta.specs.Trials.{Trial, metadata_blocks, start_trials}
use Rattle.era_meta.specs.declared.refusal.MetaError.{MetaError}
use Rattle.era_meta.specs.declared.refusal.MetaError.TheVariants.{MetaSmall, Fault, Unformatted, Damaged, WrongGeometry, EraEnd, SequenceEnd, Memory as MetaMemory}
use Rattle.era_opening.specs.Loans.{LieWhereLent}
use Rattle.era_opening.specs.Openings.{AreOnlyRead, IsReady, IsUnprepared, MayHaveWritten, prepare_refusal, session_disks}
use Rattle.era_session.specs.Openings.{AreSyncedBelow, FailsAtPart, IsRefusedFor, stripe_disks}
use Rattle.era_session.specs.declared.preparing.PrepareError.{PrepareError}
use Rattle.era_session.specs.declared.preparing.PrepareError.TheVariants.{Data, Meta as MetaRefused, Memory}
use Rattle.era_session.specs.declared.preparing.PrepareRefusal.{PrepareRefusal}
use Rattle.era_session.specs.declared.session.Session.{Session}
use Rattle.era_session.proofs.ListsInOrder.{set-other, set-same}
use Rattle.era_tools.specs.BackupTool.{OnlyReads}
use Rattle.era_tools.specs.declared.refusal.Refusal.TheVariants.{Metadata}

some-is : {A : Type 0} (x z : A) → ◌≡◌ {A = Option A} (Some x) (Some z) → z ≡ x
some-is {A} x z at = sym (ap (λ (o : Option A). unwrap_or o x) at)

-- nothing was done
quiet : (state : State) → SameBut 0 0 state state
quiet state = record { bytes = refl; flags = refl; seen = λ offset out. refl; clean = λ offset out is. is }

pub unchanged : {D : Type 0} (disk : Ghosts D) (one : D) → EachMoment disk (SameBut 0 0) one one
unchanged disk one told = went-none (SameBut 0 0) (disk.history one) (quiet (disk.history one).now)

untouched : {D : Type 0} (disk : Ghosts D) (old new : D) → new ≡ old → OnlyReads disk old new
untouched {D} disk old new same = subst (λ (d : D). OnlyReads disk old d) (sym same) (record { moments = unchanged disk old; same = record { place = refl; size = refl } })

pub all-untouched : {D : Type 0} (disk : Ghosts D) (parts : List D) → AreOnlyRead disk parts parts
all-untouched disk parts k old new at at' = untouched disk old new (some-is old new (sym at ∙ at'))

-- parts were synced
below-read : {D : Type 0} (disk : Ghosts D) (done : ℕ) (old new : List D) → AreSyncedBelow disk done old new → AreOnlyRead disk old new
below-read disk done old new are k before after at at' = elim (cases_lt k done) [
  | inl low ↦ let synced = are.synced k before after low at at' in record { moments = synced.quiet; same = synced.same }
  | inr past ↦ untouched disk before after (some-is before after (sym at ∙ sym (are.others k past) ∙ at'))
]

-- or one failed to
failed-read : {D : Type 0} (disk : Ghosts D) (k count : ℕ) (old new : List D) → FailsAtPart disk k count old new → AreOnlyRead disk old new
failed-read {D} disk k count old new fails j before after at at' =
    let there : slice_get (slice_set fails.reached k fails.after) j ≡ Some after = subst (λ (l : List D). slice_get l j ≡ Some after) fails.left at' in
    elim (cases_order j k) [
      | inl is ↦
          let here : slice_get (slice_set fails.reached k fails.after) k ≡ Some after = subst (λ (n : ℕ). slice_get (slice_set fails.reached k fails.after) n ≡ Some after) is there in
          let now : after ≡ fails.after = set-same fails.reached k fails.after after here in
          let was : before ≡ fails.before = some-is fails.before before (sym fails.found ∙ subst (λ (n : ℕ). slice_get old n ≡ Some before) is at) in
          subst (λ (d : D). OnlyReads disk d after) (sym was) (subst (λ (d : D). OnlyReads disk fails.before d) (sym now) (record { moments = fails.failed.quiet; same = fails.failed.same }))
      | inr other ↦ below-read disk k old fails.reached fails.below j before after at (sym (set-other fails.reached k j fails.after (apart j k other)) ∙ there)
    ]
  where
    apart : (j k : ℕ) → (j < k) ⊎ (k < j) → j ≢ k
    apart j k (inl low) is = omega (arith, low, is)
    apart j k (inr high) is = omega (arith, high, is)

failed-count : {D : Type 0} (disk : Ghosts D) (k count : ℕ) (old new : List D) → FailsAtPart disk k count old new → length new ≡ length old
failed-count {D} disk k count old new fails = ap (λ (l : List D). length l) fails.left ∙ length-set fails.reached k fails.after ∙ fails.below.count

-- so all lie where they were lent
pub lie-there : {D : Type 0} (disk : Ghosts D) (metadata metadata' : D) (parts parts' : List D) → SameDisk disk metadata metadata' → length parts' ≡ length parts → AreOnlyRead disk parts parts'
    → LieWhereLent disk (metadata ∷ parts) (metadata' ∷ parts')
lie-there {D} disk metadata metadata' parts parts' first count read = record { count = ap suc count; same = pairs }
  where
    pairs : (k : ℕ) (one back : D) → slice_get (metadata ∷ parts) k ≡ Some one → slice_get (metadata' ∷ parts') k ≡ Some back → SameDisk disk one back
    pairs zero one back at at' = subst (λ (d : D). SameDisk disk d back) (sym (some-is metadata one at)) (subst (λ (d : D). SameDisk disk metadata d) (sym (some-is metadata' back at')) first)
    pairs (suc k) one back at at' = (read k one back at at').same

pub lie-ready : {D : Type 0} (disk : Ghosts D) (geometry : Geometry) (metadata : D) (parts : List D) (session : Session D) → IsReady disk geometry metadata parts session
    → LieWhereLent disk (metadata ∷ parts) (session_disks session)
lie-ready disk geometry metadata parts session ready =
    let prepared = ready.prepared in
    lie-there disk metadata session.keeper.meta.slots.disk parts (stripe_disks session) prepared.started.same prepared.synced.count
    (below-read disk (length parts) parts (stripe_disks session) prepared.synced)

-- a refusal that is no fault comes before any write
may-write : (error : MetaError) → IsFault error → MayHaveWritten (Metadata error)
may-write (MetaSmall have need) is = absurd is
may-write (Fault count) is = tt
may-write Unformatted is = absurd is
may-write (Damaged kind block) is = absurd is
may-write (WrongGeometry kept asked) is = absurd is
may-write EraEnd is = absurd is
may-write (SequenceEnd number) is = absurd is
may-write MetaMemory is = absurd is

unwritten-in : (have : ℕ) (trials : List Trial) (old new : History) (error : MetaError) → StartedIn have trials old new (Some error) → ¬ MayHaveWritten (Metadata error)
    → Went (SameBut 0 0) old new
unwritten-in have trials old new error started not = elim started.found [
  | inl ended ↦ ended.1
  | inr fault ↦ absurd (not (may-write error fault.0))
]

-- the whole
pub was-safe : {D : Type 0} (disk : Ghosts D) (geometry : Geometry) (metadata : D) (parts : List D) (error : PrepareError) (refusal : PrepareRefusal D)
    → IsRefusedFor disk geometry metadata parts error refusal → StartsSafely disk geometry metadata refusal.metadata
    → IsUnprepared disk geometry metadata parts refusal.metadata refusal.parts.items (prepare_refusal error)
was-safe {D} disk geometry metadata parts (Data k count) refusal is safely =
    let back = refusal.parts.items in
    let read = failed-read disk k count parts back is.0 in
    let same : SameDisk disk metadata refusal.metadata = (untouched disk metadata refusal.metadata is.1).same in
    record {
      safe = record {
        lie = lie-there disk metadata refusal.metadata parts back same (failed-count disk k count parts back is.0) read;
        only_read = read;
        safely = safely;
        unwritten = λ not. (untouched disk metadata refusal.metadata is.1).moments;
      };
      cause = record { part = k; failed = is.0; untouched = is.1 };
    }
was-safe disk geometry metadata parts (MetaRefused error) refusal is safely =
    let back = refusal.parts.items in
    let read = below-read disk (length parts) parts back is.synced in
    record {
      safe = record {
        lie = lie-there disk metadata refusal.metadata parts back is.started.same is.synced.count read;
        only_read = read;
        safely = safely;
        unwritten = λ not told. unwritten-in (metadata_blocks (disk.sectors metadata)) (start_trials geometry (disk.history metadata).now.seen)
            (disk.history metadata) (disk.history refusal.metadata) error (is.started.told told) not;
      };
      cause = record { synced = is.synced; started = is.started };
    }
was-safe {D} disk geometry metadata parts Memory refusal (inl is) safely =
    let back = refusal.parts.items in
    let read : AreOnlyRead disk parts back = subst (λ (l : List D). AreOnlyRead disk parts l) (sym is.0) (all-untouched disk parts) in
    record {
      safe = record {
        lie = lie-there disk metadata refusal.metadata parts back (untouched disk metadata refusal.metadata is.1).same (ap (λ (l : List D). length l) is.0) read;
        only_read = read;
        safely = safely;
        unwritten = λ not. absurd (not tt);
      };
      cause = inl (record { first = is.1; others = is.0 });
    }
was-safe disk geometry metadata parts Memory refusal (inr is) safely =
    let back = refusal.parts.items in
    let read = below-read disk (length parts) parts back is.synced in
    record {
      safe = record {
        lie = lie-there disk metadata refusal.metadata parts back is.started.same is.synced.count read;
        only_read = read;
        safely = safely;
        unwritten = λ not. absurd (not tt);
      };
      cause = inr (record { synced = is.synced; started = is.started });
    }
