-- A keeper stands where the marks in memory are stored, and where that fails.
use Rattle.std.proofs.Common.{◌≡◌, ℕ, ◌≤◌, ◌/◌, Bool, true, false, List, Option, sym, ap, ◌∙◌, subst, inl, inr}
use Rattle.std.proofs.lemmas.Bool.{false≢true}
use Rattle.era_base.specs.Calls.{EachMoment, SameDisk}
use Rattle.era_base.specs.declared.disk.Disk.{Ghosts}
use Rattle.era_meta.specs.declared.metadata.Meta.{Meta}
use Rattle.era_meta.specs.Held.{snapshot_marks}
use Rattle.era_meta.specs.InMemory.{MetaStores, meaning_in}
use Rattle.era_meta.specs.MetaCalls.{CommitsMarks, FailsToCommitMarks, IsInMemory, IsStanding, KeepsSnapshot}
use Rattle.era_meta.specs.StoredMarks.{with_marks}
use Rattle.era_model.specs.declared.history.Happening.{Happening}
use Rattle.era_model.specs.declared.opening.Opening.{Opening}
use Rattle.era_model.specs.Marking.{held_of, marks_of}
use Rattle.era_model.specs.Marks.{BlockMarks}
use Rattle.era_model.specs.Promises.{MarksFollowJournal}
use Rattle.era_notes.specs.Notes.{notes_of, own_history}
use Rattle.era_keeper.specs.declared.keeper.Keeper.{Keeper}
use Rattle.era_keeper.specs.Keepers.{EntriesStand, KeeperStands, view_of}
use Rattle.era_keeper.specs.Recovery.{ComesBack}
use Rattle.era_keeper.proofs.Backs.{Recovers, back-still, back-stored, meant, went-recovered}
use Rattle.era_keeper.proofs.Follows.{durable-now}
use Rattle.era_keeper.proofs.Views.{entries-called}

-- the history of a keeper's own entries
abbrev pub own : {D : Type 0} → Ghosts D → Opening → Keeper D → List Happening
own disk opening keeper = own_history opening (notes_of disk keeper.notes)

-- the keeper over other metadata
abbrev pub over : {D : Type 0} → Keeper D → Meta D → Keeper D
over keeper meta = record { meta = meta; seat = keeper.seat; entries = keeper.entries; notes = keeper.notes }

-- what the marks stand for as they are
pub comes-now : (h : List Happening) (unstored : Bool) → MarksFollowJournal h → ComesBack h unstored (meant (marks_of h) (held_of h))
comes-now h unstored follows = record { durable = durable-now h follows; era = λ is. follows.era }

-- marks that are stored beside the snapshot
pub stored-beside : {D : Type 0} (disk : Ghosts D) (opening : Opening) (keeper : Keeper D) (m : BlockMarks) → IsStanding disk keeper.meta → KeeperStands disk opening keeper → disk.tells ≡ true
    → with_marks (meaning_in (disk.history keeper.meta.slots.disk).now keeper.meta) m ≡ meant m (held_of (own disk opening keeper))
stored-beside disk opening keeper m standing stands told = ap (λ (found : Option BlockMarks). meant m found) ((standing.stands told).held ∙ stands.held)

-- device calls of a commit, at whose moments all may be recovered
pub entries-stored : {D : Type 0} (disk : Ghosts D) (opening : Opening) (keeper : Keeper D) (new : Meta D) (marks : BlockMarks) → IsStanding disk keeper.meta
    → EachMoment disk (MetaStores keeper.meta marks) keeper.meta.slots.disk new.slots.disk → Recovers (own disk opening keeper) (meant marks (held_of (own disk opening keeper)))
    → SameDisk disk keeper.meta.slots.disk new.slots.disk → disk.faults keeper.meta.slots.disk ≤ disk.faults new.slots.disk
    → KeeperStands disk opening keeper → EntriesStand disk.tells opening (view_of disk (over keeper new))
entries-stored disk opening keeper new marks standing moments recovers device later stands =
    entries-called disk.tells opening (view_of disk keeper) (disk.history new.slots.disk) (disk.faults new.slots.disk) new.marks (snapshot_marks new.snapshot) new.unstored (disk.sectors new.slots.disk / 8)
    (ap (λ (n : ℕ). n / 8) device.size) later
    (λ told. went-recovered keeper.meta (λ before. with_marks (meaning_in before keeper.meta) marks) (own disk opening keeper) (disk.history keeper.meta.slots.disk) (disk.history new.slots.disk)
    (λ meaning comes. (stands.back told meaning comes).durable.recovered)
    (subst (Recovers (own disk opening keeper)) (sym (stored-beside disk opening keeper marks standing stands told)) recovers) (moments told))
    stands.own

pub stands-stored : {D : Type 0} (disk : Ghosts D) (opening : Opening) (keeper : Keeper D) (new : Meta D) → IsStanding disk keeper.meta
    → EachMoment disk (MetaStores keeper.meta keeper.meta.marks) keeper.meta.slots.disk new.slots.disk → CommitsMarks disk keeper.meta keeper.meta.marks new → IsInMemory new keeper.meta.marks false
    → KeepsSnapshot disk keeper.meta new → disk.faults keeper.meta.slots.disk ≤ disk.faults new.slots.disk → KeeperStands disk opening keeper → KeeperStands disk opening (over keeper new)
stands-stored disk opening keeper new standing moments commits memory same later stands =
    let h = own disk opening keeper in
    let now = (durable-now h stands.own.follows).recovered in
    let marks : keeper.meta.marks ≡ marks_of h = stands.marks in
    record {
      own = entries-stored disk opening keeper new keeper.meta.marks standing moments (subst (λ (m : BlockMarks). Recovers h (meant m (held_of h))) (sym marks) now) same.device later stands;
      marks = memory.marks ∙ marks;
      held = ap snapshot_marks same.snapshot ∙ stands.held;
      back = λ told meaning comes.
          let is = back-stored keeper.meta new keeper.meta.marks (disk.history keeper.meta.slots.disk).now (disk.history new.slots.disk).now meaning (commits.stored told) comes
          ∙ stored-beside disk opening keeper keeper.meta.marks standing stands told ∙ ap (λ (m : BlockMarks). meant m (held_of h)) marks in
          subst (ComesBack h new.unstored) (sym is) (comes-now h new.unstored stands.own.follows);
      unstored = λ on. absurd (false≢true (sym memory.unstored ∙ on));
    }

pub stands-unstored : {D : Type 0} (disk : Ghosts D) (opening : Opening) (keeper : Keeper D) (new : Meta D) → IsStanding disk keeper.meta
    → EachMoment disk (MetaStores keeper.meta keeper.meta.marks) keeper.meta.slots.disk new.slots.disk → FailsToCommitMarks disk keeper.meta keeper.meta.marks new
    → IsInMemory new keeper.meta.marks keeper.meta.unstored → KeepsSnapshot disk keeper.meta new → disk.faults keeper.meta.slots.disk ≤ disk.faults new.slots.disk
    → KeeperStands disk opening keeper → KeeperStands disk opening (over keeper new)
stands-unstored disk opening keeper new standing moments fails memory same later stands =
    let h = own disk opening keeper in
    let now = (durable-now h stands.own.follows).recovered in
    let marks : keeper.meta.marks ≡ marks_of h = stands.marks in
    record {
      own = entries-stored disk opening keeper new keeper.meta.marks standing moments (subst (λ (m : BlockMarks). Recovers h (meant m (held_of h))) (sym marks) now) same.device later stands;
      marks = memory.marks ∙ marks;
      held = ap snapshot_marks same.snapshot ∙ stands.held;
      back = λ told meaning comes. elim (back-still keeper.meta new keeper.meta.marks (disk.history keeper.meta.slots.disk).now (disk.history new.slots.disk).now meaning (fails.still told) comes) [
        | inl old ↦ subst (λ (flag : Bool). ComesBack h flag meaning) (sym memory.unstored) (stands.back told meaning old)
        | inr next ↦
            let is = next ∙ stored-beside disk opening keeper keeper.meta.marks standing stands told ∙ ap (λ (m : BlockMarks). meant m (held_of h)) marks in
            subst (ComesBack h new.unstored) (sym is) (comes-now h new.unstored stands.own.follows)
      ];
      unstored = λ on. stands.unstored (sym memory.unstored ∙ on);
    }
