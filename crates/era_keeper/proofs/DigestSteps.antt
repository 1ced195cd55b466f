-- A keeper stands where a digest step is stored, and where that fails.
use Rattle.std.proofs.Common.{◌≡◌, ℕ, Bool, true, false, List, [], ◌∷◌, ◌++◌, length, nat_lt, Option, Some, None, is_some, refl, sym, ap, ◌∙◌, subst, inl, inr, arith}
use Rattle.std.specs.Prelude.{if◌then◌else◌}
use Rattle.std.proofs.lemmas.Bool.{false≢true}
use Rattle.era_base.specs.Calls.{Now}
use Rattle.era_base.specs.Faults.{Rose}
use Rattle.era_base.specs.declared.disk.Disk.{Ghosts}
use Rattle.era_base.specs.declared.ids.CmdId.{CmdId}
use Rattle.era_base.specs.declared.limits.TheConstants.{MOST_SETS}
use Rattle.era_gate.specs.Calls.{has_mark}
use Rattle.era_meta.specs.declared.metadata.Meta.{Meta}
use Rattle.era_meta.specs.Held.{snapshot_marks}
use Rattle.era_meta.specs.Digested.{HasMarks, StillHasMarks}
use Rattle.era_meta.specs.Digesting.{HasStep, IsDigest, after_digest, digested_by}
use Rattle.era_meta.specs.InMemory.{IsAheadOf, LeavesMeanings, meaning_in}
use Rattle.era_meta.specs.MetaCalls.{IsStanding, KeepsSnapshot}
use Rattle.era_model.specs.declared.event.Event.TheVariants.{Digest, Refused}
use Rattle.era_model.specs.declared.event.Kind.TheVariants.{Digest as DigestKind}
use Rattle.era_model.specs.declared.event.Why.TheVariants.{MetaFault}
use Rattle.era_model.specs.declared.history.Happening.{Happening}
use Rattle.era_model.specs.declared.opening.Opening.{Opening}
use Rattle.era_model.specs.Digest.{digest_of, digested}
use Rattle.era_model.specs.Marking.{held_of, marks_of}
use Rattle.era_model.specs.Marks.{ArchivedSet, BlockMarks, marks_last_era, rolled, with_current_archived, with_oldest_merged}
use Rattle.era_model.specs.Promises.{KeepsLastEras, MarksFollowJournal}
use Rattle.era_model.specs.Validity.{AreValidMarks}
use Rattle.era_keeper.specs.declared.keeper.Keeper.{Keeper}
use Rattle.era_keeper.specs.Keepers.{FitsAfter, KeeperStands, comes_back, view_of}
use Rattle.era_keeper.specs.Recovery.{ComesBack}
use Rattle.era_keeper.specs.Steps.{last_count_of}
use Rattle.era_keeper.specs.Storing.{FailsToStoreEra}
use Rattle.era_keeper.proofs.Backs.{back-still, back-stored, meant}
use Rattle.era_keeper.proofs.Commits.{owes-failed, owes-stored}
use Rattle.era_keeper.proofs.Counts.{ascends-since}
use Rattle.era_keeper.proofs.Fits.{FitsOnce}
use Rattle.era_keeper.proofs.Follows.{digested-era, follows-digest, hold-own}
use Rattle.era_keeper.proofs.Quiet.{OwesDraw, comes-quiet}
use Rattle.era_keeper.proofs.Stores.{over, own, stored-beside}

-- the model's law of digests
abbrev pub DigestsKeep : Type 0
DigestsKeep = (m : BlockMarks) (era : ℕ) (page : Option ℕ) → AreValidMarks m → digest_of m.archive m.array ≡ Some (era, page) → KeepsLastEras m (digested m page)

-- nothing to do
pub none-archived : (sets : List ArchivedSet) (array : List ℕ) → None ≡ digest_of sets array → sets ≡ []
none-archived [] array is = refl
none-archived (oldest ∷ sets) array is = absurd (false≢true (ap (λ (step : Option (ℕ × Option ℕ)). is_some step) is))

-- marks one era switch ahead of what is stored have a set archived
step-behind : (sets : List ArchivedSet) (last : ArchivedSet) (array : List ℕ) → (era : ℕ) × (page : Option ℕ) × (digest_of (sets ++ last ∷ []) array ≡ Some (era, page))
step-behind [] last array = (last.era, _, refl)
step-behind (oldest ∷ sets) last array = (oldest.era, _, refl)

archived-step : (before : BlockMarks) → HasStep (with_current_archived before)
archived-step before = step-behind before.archive (record { era = before.era; blocks = before.current }) before.array

rolled-step : (m : BlockMarks) → HasStep (rolled m)
rolled-step m = archived-step (if nat_lt (length m.archive) MOST_SETS then m else with_oldest_merged m m.archive)

unstored-step : {D : Type 0} (disk : Ghosts D) (unstored : Bool) (old new : Meta D) (stored : BlockMarks) → FailsToStoreEra disk unstored old new → IsAheadOf unstored old.marks stored → HasStep old.marks
unstored-step disk false old new stored failed ahead = absurd failed
unstored-step disk true old new stored failed ahead = subst HasStep (sym ahead) (rolled-step stored)

pub step-unstored : {D : Type 0} (disk : Ghosts D) (old new : Meta D) → IsStanding disk old → FailsToStoreEra disk old.unstored old new → disk.tells ≡ true → HasStep old.marks
step-unstored disk old new standing failed told = unstored-step disk old.unstored old new (meaning_in (disk.history old.slots.disk).now old).marks failed (standing.stands told).says

-- the step by its rule
keeps-by : (m : BlockMarks) (step : Option (ℕ × Option ℕ)) → digest_of m.archive m.array ≡ step → AreValidMarks m → DigestsKeep → KeepsLastEras m (digested_by m step)
keeps-by m None is valid law = record { valid = valid; sectors = refl; block_sectors = refl; lasts = λ block. refl }
keeps-by m (Some (era, page)) is valid law = law m era page valid is

era-by : (m : BlockMarks) (step : Option (ℕ × Option ℕ)) → (digested_by m step).era ≡ m.era
era-by m None = refl
era-by m (Some step) = digested-era m step.1

-- marks that have the last eras of before come back
comes-kept : (h : List Happening) (m : BlockMarks) → MarksFollowJournal h → KeepsLastEras (marks_of h) m → m.era ≡ (marks_of h).era → ComesBack h false (meant m (held_of h))
comes-kept h m f keeps same = record {
  durable = record {
    recovered = record {
      valid = keeps.valid;
      sectors = keeps.sectors ∙ f.sectors;
      block_sectors = keeps.block_sectors ∙ f.block_sectors;
      exception = None;
      lasts = λ block below. keeps.lasts block ∙ f.lasts block;
      era = inl (same ∙ f.era);
      valid_snapshot = f.snapshot;
      snapshot = hold-own h (held_of h);
    };
    lasts = λ none block below. keeps.lasts block ∙ f.lasts block;
    era = λ none. same ∙ f.era;
    snapshot = λ none. refl;
  };
  era = λ is. same ∙ f.era;
}

pub comes-digested : {D : Type 0} (disk : Ghosts D) (opening : Opening) (keeper : Keeper D) → DigestsKeep → KeeperStands disk opening keeper
    → ComesBack (own disk opening keeper) false (meant (after_digest keeper.meta.marks) (held_of (own disk opening keeper)))
comes-digested disk opening keeper law stands =
    let h = own disk opening keeper in
    let f = stands.own.follows in
    let m : BlockMarks = marks_of h in
    subst (λ (m : BlockMarks). ComesBack h false (meant (after_digest m) (held_of h))) (sym stands.marks)
    (comes-kept h (after_digest m) f (keeps-by m (digest_of m.archive m.array) refl f.valid law) (era-by m (digest_of m.archive m.array)))

-- the step is drawn
pub owes-digest : {D : Type 0} (disk : Ghosts D) (opening : Opening) (keeper : Keeper D) (new : Meta D) (id : CmdId) (era : ℕ) (page : Option ℕ) → DigestsKeep → IsStanding disk keeper.meta
    → IsDigest keeper.meta.marks era page → HasMarks disk keeper.meta (digested keeper.meta.marks page) new → KeepsSnapshot disk keeper.meta new
    → Now disk (LeavesMeanings new) new.slots.disk → KeeperStands disk opening keeper
    → OwesDraw disk.tells opening (comes_back disk new) (view_of disk (over keeper new)) (Digest id era page)
owes-digest disk opening keeper new id era page law standing step has same images stands =
    let h = own disk opening keeper in
    let f = stands.own.follows in
    let rule : IsDigest (marks_of h) era page = subst (λ (m : BlockMarks). IsDigest m era page) stands.marks step in
    owes-stored disk opening keeper new (Digest id era page) (record { step = rule }) tt
    (follows-digest h id era page (law (marks_of h) era page f.valid rule) f) stands.own.marked
    (has.memory.marks ∙ ap (λ (m : BlockMarks). digested m page) stands.marks) (ap snapshot_marks same.snapshot ∙ stands.held) has.memory.unstored
    (λ told meaning back.
    back-stored keeper.meta new (digested keeper.meta.marks page) (disk.history keeper.meta.slots.disk).now (disk.history new.slots.disk).now meaning (has.stored.stored told) back
    ∙ stored-beside disk opening keeper (digested keeper.meta.marks page) standing stands told ∙ ap (λ (m : BlockMarks). meant (digested m page) (held_of h)) stands.marks)
    images

-- the refusal is drawn
pub owes-undigested : {D : Type 0} (disk : Ghosts D) (opening : Opening) (keeper : Keeper D) (new : Meta D) (id : CmdId) (count : ℕ) → DigestsKeep → IsStanding disk keeper.meta
    → keeper.meta.unstored ≡ false → StillHasMarks disk keeper.meta (after_digest keeper.meta.marks) new → KeepsSnapshot disk keeper.meta new
    → count ≡ disk.faults new.slots.disk → Rose (last_count_of disk keeper) count → Now disk (LeavesMeanings new) new.slots.disk → KeeperStands disk opening keeper
    → OwesDraw disk.tells opening (comes_back disk new) (view_of disk (over keeper new)) (Refused id DigestKind (MetaFault count))
owes-undigested disk opening keeper new id count law standing stored still same present rose images stands =
    let h = own disk opening keeper in
    let view = view_of disk keeper in
    let next = meant (after_digest keeper.meta.marks) (held_of h) in
    owes-failed disk opening keeper new id DigestKind count next
    (record { rose = ascends-since opening view.notes view.least view.faults count stands.own.legal stands.own.counts rose; cause = tt })
    present rose still.memory.marks (ap snapshot_marks same.snapshot) stored still.memory.unstored
    (λ told meaning back. elim (back-still keeper.meta new (after_digest keeper.meta.marks) (disk.history keeper.meta.slots.disk).now (disk.history new.slots.disk).now meaning (still.failed.still told) back) [
      | inl old ↦ inl old
      | inr is ↦ inr (is ∙ stored-beside disk opening keeper (after_digest keeper.meta.marks) standing stands told)
    ])
    (comes-quiet false (Refused id DigestKind (MetaFault count)) h next tt (comes-digested disk opening keeper law stands))
    images stands

-- the keeper once the step is drawn
pub once-digested : {D : Type 0} (disk : Ghosts D) (keeper : Keeper D) (new : Meta D) (id : CmdId) (era : ℕ) (page : Option ℕ) → DigestsKeep → AreValidMarks keeper.meta.marks
    → FitsAfter disk 1 keeper → IsStanding disk new → IsDigest keeper.meta.marks era page → HasMarks disk keeper.meta (digested keeper.meta.marks page) new → FitsOnce disk (Digest id era page) (over keeper new)
once-digested disk keeper new id era page law valid fits standing step has =
    let before = fits.numbers in
    let number = has.stored.number in
    let keeps = law keeper.meta.marks era page valid step in
    let same : new.marks.era ≡ keeper.meta.marks.era = ap (λ (m : BlockMarks). m.era) has.memory.marks ∙ digested-era keeper.meta.marks page in
    record {
      standing = standing;
      era = fits.era ∙ sym same;
      switched = fits.switched;
      drawn = λ block last.
          subst (λ (e : ℕ). has_mark block e keeper.seat.part.state.entries ≡ true) (sym same)
          (fits.drawn block (sym (keeps.lasts block) ∙ ap (λ (m : BlockMarks). marks_last_era m block) (sym has.memory.marks) ∙ last ∙ same));
      numbers = omega (arith, before, number);
    }
