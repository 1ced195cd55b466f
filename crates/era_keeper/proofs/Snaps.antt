-- A keeper stands where a snapshot is taken or dropped, and where that fails.
use Rattle.std.proofs.Common.{◌≡◌, ℕ, ◌≤◌, ◌/◌, Bool, true, false, List, [], ◌∷◌, Option, Some, None, is_some, refl, sym, ap, ◌∙◌, subst, inl, inr}
use Rattle.std.specs.Prelude.{if◌then◌else◌}
use Rattle.std.proofs.lemmas.Bool.{false≢true}
use Rattle.era_base.specs.Calls.{EachMoment, Now, SameDisk}
use Rattle.era_base.specs.Faults.{Rose}
use Rattle.era_base.specs.declared.disk.Disk.{Ghosts}
use Rattle.era_base.specs.declared.ids.CmdId.{CmdId}
use Rattle.era_meta.specs.declared.metadata.Meta.{Meta}
use Rattle.era_meta.specs.Held.{snapshot_marks}
use Rattle.era_meta.specs.HeldCalls.{with_snapshot}
use Rattle.era_meta.specs.InMemory.{LeavesMeanings, meaning_in}
use Rattle.era_meta.specs.Meaning.{Meaning}
use Rattle.era_meta.specs.MetaCalls.{IsStanding}
use Rattle.era_meta.specs.SnapshotCalls.{CommitsSnapshot, FailsToCommitSnapshot, KeepsMarks, MetaHolds}
use Rattle.era_model.specs.declared.event.Event.{Event}
use Rattle.era_model.specs.declared.event.Event.TheVariants.{Dropped, Refused, Snap}
use Rattle.era_model.specs.declared.event.Kind.{Kind}
use Rattle.era_model.specs.declared.event.Why.TheVariants.{MetaFault}
use Rattle.era_model.specs.declared.history.Happening.{Happening}
use Rattle.era_model.specs.declared.history.Happening.TheVariants.{Happened}
use Rattle.era_model.specs.declared.opening.Opening.{Opening}
use Rattle.era_model.specs.Legal.{NeedsVolatileEra}
use Rattle.era_model.specs.Marking.{held_of, marks_of}
use Rattle.era_model.specs.Marks.{BlockMarks, rolled}
use Rattle.era_model.specs.Promises.{MarksFollowJournal}
use Rattle.era_model.specs.Recovered.{MayHold, WereMarks, changes_snapshot}
use Rattle.era_notes.specs.Notes.{Note, notes_of, own_history}
use Rattle.era_keeper.specs.declared.keeper.Keeper.{Keeper}
use Rattle.era_keeper.specs.Keepers.{EntriesStand, KeeperStands, comes_back, view_of}
use Rattle.era_keeper.specs.Recovery.{ComesBack}
use Rattle.era_keeper.specs.Steps.{last_count_of}
use Rattle.era_keeper.proofs.Backs.{Recovers, back-held, back-still-held, meant, went-recovered}
use Rattle.era_keeper.proofs.Commits.{owes-failed, owes-stored}
use Rattle.era_keeper.proofs.Counts.{ascends-since}
use Rattle.era_keeper.proofs.Fails.{refused-fails}
use Rattle.era_keeper.proofs.Follows.{follows-drop, follows-snap}
use Rattle.era_keeper.proofs.Listed.{marks-held, marks-none}
use Rattle.era_keeper.proofs.Quiet.{OwesDraw}
use Rattle.era_keeper.proofs.Stores.{over, own}
use Rattle.era_keeper.proofs.Views.{entries-called}
use Rattle.era_keeper.proofs.Words.{quiet-words, recovered-again}

-- marks as the snapshot of themselves, or without one
abbrev pub snapped : Bool → BlockMarks → Option BlockMarks
snapped taken m = if taken then Some m else None

-- the marks in memory are the stored ones
stored-marks : {D : Type 0} (disk : Ghosts D) (keeper : Keeper D) → IsStanding disk keeper.meta → keeper.meta.unstored ≡ false → disk.tells ≡ true
    → keeper.meta.marks ≡ (meaning_in (disk.history keeper.meta.slots.disk).now keeper.meta).marks
stored-marks disk keeper standing stored told =
    let m : BlockMarks = (meaning_in (disk.history keeper.meta.slots.disk).now keeper.meta).marks in
    (standing.stands told).says ∙ ap (λ (flag : Bool). if flag then rolled m else m) stored

pub snapped-beside : {D : Type 0} (disk : Ghosts D) (keeper : Keeper D) (taken : Bool) → IsStanding disk keeper.meta → keeper.meta.unstored ≡ false → disk.tells ≡ true
    → with_snapshot taken (meaning_in (disk.history keeper.meta.slots.disk).now keeper.meta) ≡ meant keeper.meta.marks (snapped taken keeper.meta.marks)
snapped-beside disk keeper taken standing stored told = ap (λ (m : BlockMarks). meant m (snapped taken m)) (sym (stored-marks disk keeper standing stored told))

-- the present marks were the session's
were-own : (opening : Opening) (notes : List Note) → WereMarks (own_history opening notes) (marks_of (own_history opening notes))
were-own opening [] = refl
were-own opening (note ∷ earlier) = inl refl

hold-none : (h : List Happening) (held : Option BlockMarks) → MayHold h held None
hold-none h None = inl refl
hold-none h (Some held) = inr refl

-- what a commit of a snapshot stores may be recovered
pub recovers-snapped : (opening : Opening) (notes : List Note) (taken : Bool) → (taken ≡ true → held_of (own_history opening notes) ≡ None) → MarksFollowJournal (own_history opening notes)
    → Recovers (own_history opening notes) (meant (marks_of (own_history opening notes)) (snapped taken (marks_of (own_history opening notes))))
recovers-snapped opening notes true none f =
    let h = own_history opening notes in
    record {
      valid = f.valid;
      sectors = f.sectors;
      block_sectors = f.block_sectors;
      exception = None;
      lasts = λ block below. f.lasts block;
      era = inl f.era;
      valid_snapshot = f.valid;
      snapshot = subst (λ (held : Option BlockMarks). MayHold h held (Some (marks_of h))) (sym (none refl)) (inr (were-own opening notes));
    }
recovers-snapped opening notes false none f = record {
  valid = f.valid;
  sectors = f.sectors;
  block_sectors = f.block_sectors;
  exception = None;
  lasts = λ block below. f.lasts block;
  era = inl f.era;
  valid_snapshot = tt;
  snapshot = hold-none (own_history opening notes) (held_of (own_history opening notes));
}

-- of the marks in memory
pub recovers-held : {D : Type 0} (disk : Ghosts D) (opening : Opening) (keeper : Keeper D) (taken : Bool) → (taken ≡ true → keeper.meta.snapshot.is_held ≡ false) → KeeperStands disk opening keeper
    → Recovers (own disk opening keeper) (meant keeper.meta.marks (snapped taken keeper.meta.marks))
recovers-held disk opening keeper taken none stands =
    subst (λ (m : BlockMarks). Recovers (own disk opening keeper) (meant m (snapped taken m))) (sym stands.marks)
    (recovers-snapped opening (notes_of disk keeper.notes) taken (λ is. sym stands.held ∙ marks-none keeper.meta.snapshot (none is)) stands.own.follows)

-- it comes back where its commit failed
pub comes-snapped : (h : List Happening) (id : CmdId) (kind : Kind) (count : ℕ) (found : Option BlockMarks) → changes_snapshot kind ≡ true → MarksFollowJournal h → Recovers h (meant (marks_of h) found)
    → ComesBack (Happened (Refused id kind (MetaFault count)) ∷ h) false (meant (marks_of h) found)
comes-snapped h id kind count found is f recovers =
    let event : Event = Refused id kind (MetaFault count) in
    record {
      durable = record {
        recovered = recovered-again event h (marks_of h) found (quiet-words false event h tt).keeps recovers.era recovers;
        lasts = λ none block below. f.lasts block;
        era = λ none. f.era;
        snapshot = λ none. absurd (false≢true (sym none ∙ refused-fails changes_snapshot id kind count h is));
      };
      era = λ is. f.era;
    }

-- device calls of a commit of a snapshot
pub entries-held : {D : Type 0} (disk : Ghosts D) (opening : Opening) (keeper : Keeper D) (new : Meta D) (taken : Bool) → IsStanding disk keeper.meta → keeper.meta.unstored ≡ false
    → (taken ≡ true → keeper.meta.snapshot.is_held ≡ false) → EachMoment disk (MetaHolds keeper.meta taken) keeper.meta.slots.disk new.slots.disk
    → SameDisk disk keeper.meta.slots.disk new.slots.disk → disk.faults keeper.meta.slots.disk ≤ disk.faults new.slots.disk
    → KeeperStands disk opening keeper → EntriesStand disk.tells opening (view_of disk (over keeper new))
entries-held disk opening keeper new taken standing stored none moments device later stands =
    entries-called disk.tells opening (view_of disk keeper) (disk.history new.slots.disk) (disk.faults new.slots.disk) new.marks (snapshot_marks new.snapshot) new.unstored (disk.sectors new.slots.disk / 8)
    (ap (λ (n : ℕ). n / 8) device.size) later
    (λ told. went-recovered keeper.meta (λ before. with_snapshot taken (meaning_in before keeper.meta)) (own disk opening keeper) (disk.history keeper.meta.slots.disk) (disk.history new.slots.disk)
    (λ meaning comes. (stands.back told meaning comes).durable.recovered)
    (subst (Recovers (own disk opening keeper)) (sym (snapped-beside disk keeper taken standing stored told)) (recovers-held disk opening keeper taken none stands)) (moments told))
    stands.own

-- what comes back behind it
snapped-alone : {D : Type 0} (disk : Ghosts D) (opening : Opening) (keeper : Keeper D) (new : Meta D) (taken : Bool) → IsStanding disk keeper.meta → keeper.meta.unstored ≡ false
    → CommitsSnapshot disk keeper.meta taken new → KeeperStands disk opening keeper → disk.tells ≡ true → (meaning : Meaning) → comes_back disk new meaning
    → meaning ≡ meant (marks_of (own disk opening keeper)) (snapped taken (marks_of (own disk opening keeper)))
snapped-alone disk opening keeper new taken standing stored commits stands told meaning back =
    back-held keeper.meta new taken (disk.history keeper.meta.slots.disk).now (disk.history new.slots.disk).now meaning (commits.stored told) back
    ∙ snapped-beside disk keeper taken standing stored told ∙ ap (λ (m : BlockMarks). meant m (snapped taken m)) stands.marks

-- the taking is drawn
pub owes-snap : {D : Type 0} (disk : Ghosts D) (opening : Opening) (keeper : Keeper D) (new : Meta D) (id : CmdId) (block : ℕ) → IsStanding disk keeper.meta → keeper.meta.unstored ≡ false
    → block ≡ 2 → keeper.meta.snapshot.is_held ≡ false → CommitsSnapshot disk keeper.meta true new → KeepsMarks disk keeper.meta new
    → Now disk (LeavesMeanings new) new.slots.disk → KeeperStands disk opening keeper
    → OwesDraw disk.tells opening (comes_back disk new) (view_of disk (over keeper new)) (Snap id block)
owes-snap disk opening keeper new id block standing stored two none commits keeps images stands =
    let h = own disk opening keeper in
    owes-stored disk opening keeper new (Snap id block)
    (record { block_two = two; none = sym stands.held ∙ marks-none keeper.meta.snapshot none }) tt
    (follows-snap h id block stands.own.follows) stands.own.marked
    (keeps.memory.marks ∙ stands.marks) (commits.snapshot ∙ ap (λ (m : BlockMarks). Some m) stands.marks) keeps.memory.unstored
    (λ told meaning back. snapped-alone disk opening keeper new true standing stored commits stands told meaning back)
    images

-- the dropping is drawn
pub owes-drop : {D : Type 0} (disk : Ghosts D) (opening : Opening) (keeper : Keeper D) (new : Meta D) (id : CmdId) → IsStanding disk keeper.meta → keeper.meta.unstored ≡ false
    → keeper.meta.snapshot.is_held ≡ true → CommitsSnapshot disk keeper.meta false new → KeepsMarks disk keeper.meta new
    → Now disk (LeavesMeanings new) new.slots.disk → KeeperStands disk opening keeper
    → OwesDraw disk.tells opening (comes_back disk new) (view_of disk (over keeper new)) (Dropped id)
owes-drop disk opening keeper new id standing stored held commits keeps images stands =
    let h = own disk opening keeper in
    owes-stored disk opening keeper new (Dropped id)
    (record { held = ap (λ (found : Option BlockMarks). is_some found) (sym stands.held ∙ marks-held keeper.meta.snapshot held) }) tt
    (follows-drop h id stands.own.follows) stands.own.marked
    (keeps.memory.marks ∙ stands.marks) commits.snapshot keeps.memory.unstored
    (λ told meaning back. snapped-alone disk opening keeper new false standing stored commits stands told meaning back)
    images

-- the refusal is drawn
pub owes-unsnapped : {D : Type 0} (disk : Ghosts D) (opening : Opening) (keeper : Keeper D) (new : Meta D) (id : CmdId) (kind : Kind) (count : ℕ) (taken : Bool) → IsStanding disk keeper.meta
    → keeper.meta.unstored ≡ false → (taken ≡ true → keeper.meta.snapshot.is_held ≡ false) → changes_snapshot kind ≡ true → NeedsVolatileEra (own disk opening keeper) id kind
    → FailsToCommitSnapshot disk keeper.meta taken new → KeepsMarks disk keeper.meta new
    → count ≡ disk.faults new.slots.disk → Rose (last_count_of disk keeper) count → Now disk (LeavesMeanings new) new.slots.disk → KeeperStands disk opening keeper
    → OwesDraw disk.tells opening (comes_back disk new) (view_of disk (over keeper new)) (Refused id kind (MetaFault count))
owes-unsnapped disk opening keeper new id kind count taken standing stored none is cause fails keeps present rose images stands =
    let h = own disk opening keeper in
    let view = view_of disk keeper in
    let marks : keeper.meta.marks ≡ marks_of h = stands.marks in
    owes-failed disk opening keeper new id kind count (meant keeper.meta.marks (snapped taken keeper.meta.marks))
    (record { rose = ascends-since opening view.notes view.least view.faults count stands.own.legal stands.own.counts rose; cause = cause })
    present rose keeps.memory.marks (ap snapshot_marks fails.snapshot) stored keeps.memory.unstored
    (λ told meaning back. elim (back-still-held keeper.meta new taken (disk.history keeper.meta.slots.disk).now (disk.history new.slots.disk).now meaning (fails.still told) back) [
      | inl old ↦ inl old
      | inr next ↦ inr (next ∙ snapped-beside disk keeper taken standing stored told)
    ])
    (subst (λ (m : BlockMarks). Recovers h (meant m (snapped taken m)) → ComesBack (Happened (Refused id kind (MetaFault count)) ∷ h) false (meant m (snapped taken m))) (sym marks)
    (λ recovers. comes-snapped h id kind count (snapped taken (marks_of h)) is stands.own.follows recovers) (recovers-held disk opening keeper taken none stands))
    images stands
