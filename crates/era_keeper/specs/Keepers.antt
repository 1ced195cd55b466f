-- What stands of a keeper: what fits together whatever the disk tells, and what its entries say of the metadata.
use Rattle.std.specs.Prelude.{◌≡◌, ℕ, ◌+◌, ◌*◌, ◌/◌, ◌^◌, ◌<◌, ◌≤◌, Bool, true, false, List, [], ◌∷◌, ◌++◌, length, Option}
use Rattle.era_base.specs.CrashModel.{History, clock}
use Rattle.era_base.specs.declared.disk.Disk.{Ghosts}
use Rattle.era_gate.specs.Acts.{entry, keeper_with}
use Rattle.era_gate.specs.Calls.{has_mark}
use Rattle.era_gate.specs.Places.{AscendFrom}
use Rattle.era_gate.specs.declared.parts.KeeperPart.{KeeperPart}
use Rattle.era_gate.specs.declared.states.KeeperState.{KeeperState}
use Rattle.era_keeper.specs.declared.keeper.Keeper.{Keeper}
use Rattle.era_keeper.specs.OwnEntries.{AreKeepersLegal, MarksAreKept}
use Rattle.era_keeper.specs.Recovery.{ComesBack, HasFailedSwitch, LeavesRecovered}
use Rattle.era_meta.specs.declared.metadata.Meta.{Meta}
use Rattle.era_meta.specs.Held.{snapshot_marks}
use Rattle.era_meta.specs.InMemory.{MayComeBack}
use Rattle.era_meta.specs.Meaning.{Meaning}
use Rattle.era_meta.specs.MetaCalls.{IsStanding}
use Rattle.era_model.specs.declared.entry.Entry.{Entry}
use Rattle.era_model.specs.declared.event.Event.{Event}
use Rattle.era_model.specs.declared.opening.Opening.{Opening}
use Rattle.era_model.specs.Legal.{IsOpening}
use Rattle.era_model.specs.Marking.{marks_of, held_of}
use Rattle.era_model.specs.Marks.{BlockMarks, marks_last_era}
use Rattle.era_model.specs.Promises.{MarksFollowJournal}
use Rattle.era_notes.specs.Notes.{Note, notes_of, own_history, entries_of, begun_of, least_of, CountsRise}
use Rattle.era_notes.specs.Rooms.{entries_in}
use Rattle.era_notes.specs.Windows.{HoldsThrough}

-- The seat of the keeper before any act, in an era.
pub record IsNewKeeper (seat : KeeperPart) (era : ℕ) : Type 0 where
  pub present : seat.state.era ≡ era
  pub drawn : seat.state.switched ≡ true
  pub none : seat.state.entries ≡ []

-- The metadata may be given to a keeper: it stands, its marks are stored, none of them is in the present era, and it has numbers left for all commits of a session.
pub record IsNewMeta {D : Type 0} (disk : Ghosts D) (meta : Meta D) : Type 0 where
  pub standing : IsStanding disk meta
  pub stored : meta.unstored ≡ false
  pub fresh : (block : ℕ) → marks_last_era meta.marks block < meta.marks.era
  pub below : meta.slots.number ≤ 2 ^ 62

-- A keeper fits together behind so many commits that no entry tells yet: its metadata stands; the gate's era is that of the marks, with its switch drawn; a block whose last mark is of the present era has a drawn mark; and the other commits are two for each entry at most, behind those of before.
pub record FitsAfter {D : Type 0} (disk : Ghosts D) (commits : ℕ) (keeper : Keeper D) : Type 0 where
  pub standing : IsStanding disk keeper.meta
  pub era : keeper.seat.part.state.era ≡ keeper.meta.marks.era
  pub switched : keeper.seat.part.state.switched ≡ true
  pub drawn : (block : ℕ) → marks_last_era keeper.meta.marks block ≡ keeper.meta.marks.era
      → has_mark block keeper.meta.marks.era keeper.seat.part.state.entries ≡ true
  pub numbers : keeper.meta.slots.number ≤ 2 ^ 62 + 2 * length keeper.seat.part.state.entries + commits
  pub few : length keeper.seat.part.state.entries ≤ 2 ^ 60

-- Between commands each commit is told by an entry.
abbrev pub KeeperFits : {D : Type 0} → Ghosts D → Keeper D → Type 0
KeeperFits disk keeper = FitsAfter disk 0 keeper

-- What contracts see of a keeper: the disk's history and count of faults, with the moment and the count at which the session began on it; its notes; the marks and the snapshot in memory, and whether their era is stored; how many metadata blocks there are; what the gate knows of it; and the entries that it keeps.
pub record KeeperView : Type 0 where
  pub history : History
  pub begun : ℕ
  pub least : ℕ
  pub faults : ℕ
  pub notes : List Note
  pub marks : BlockMarks
  pub held : Option BlockMarks
  pub unstored : Bool
  pub total : ℕ
  pub state : KeeperState
  pub entries : List Entry

-- What contracts see of a keeper over such a disk.
abbrev pub view_of : {D : Type 0} → Ghosts D → Keeper D → KeeperView
view_of disk keeper = record {
  history = disk.history keeper.meta.slots.disk;
  begun = begun_of disk keeper.notes;
  least = least_of disk keeper.notes;
  faults = disk.faults keeper.meta.slots.disk;
  notes = notes_of disk keeper.notes;
  marks = keeper.meta.marks;
  held = snapshot_marks keeper.meta.snapshot;
  unstored = keeper.meta.unstored;
  total = disk.sectors keeper.meta.slots.disk / 8;
  state = keeper.seat.part.state;
  entries = entries_in keeper.entries;
}

-- The meanings that a crash may bring back now.
abbrev pub comes_back : {D : Type 0} → Ghosts D → Meta D → Meaning → Type 0
comes_back disk meta meaning = MayComeBack meta meaning (disk.history meta.slots.disk).now

-- From the session's beginning on the disk up to now, at each moment between two entries, each crash image stands for marks and a snapshot that may be recovered by the entries that were drawn by then.
abbrev pub LeavesItsMarks : Opening → KeeperView → Type 0
LeavesItsMarks opening view =
    HoldsThrough (λ notes. LeavesRecovered (own_history opening notes)) view.history view.begun (clock view.history) view.notes

-- What a keeper's entries say: each met its conditions; the marks by them are valid, with the present era and each block's last mark; crash images may be recovered at each moment; counts of faults ascend; the entries are those of the seat; and their places ascend.
pub record EntriesStand (tells : Bool) (opening : Opening) (view : KeeperView) : Type 0 where
  pub opens : IsOpening opening
  pub total : view.total ≡ opening.total
  pub legal : AreKeepersLegal opening view.notes
  pub follows : MarksFollowJournal (own_history opening view.notes)
  pub marked : MarksAreKept (own_history opening view.notes)
  pub through : tells ≡ true → LeavesItsMarks opening view
  pub counts : CountsRise view.least view.faults view.notes
  pub entries : entries_of view.notes ≡ view.state.entries
  pub kept : view.entries ≡ view.state.entries
  pub places : AscendFrom 0 view.state.entries

-- A keeper stands in a session that opened so: its entries say what they have to; the marks and the snapshot in memory are those by its entries; each meaning that a crash may bring back now is durable by them; and where the era stands in memory alone, its switch failed behind the last commit.
pub record ViewStands (tells : Bool) (opening : Opening) (Back : Meaning → Type 0) (view : KeeperView) : Type 0 where
  pub own : EntriesStand tells opening view
  pub marks : view.marks ≡ marks_of (own_history opening view.notes)
  pub held : view.held ≡ held_of (own_history opening view.notes)
  pub back : tells ≡ true → (meaning : Meaning) → Back meaning → ComesBack (own_history opening view.notes) view.unstored meaning
  pub unstored : view.unstored ≡ true → HasFailedSwitch (own_history opening view.notes)

-- The record of a keeper. It is of the keeper's value alone, and holds before and after each call, whatever the call answered.
abbrev pub KeeperStands : {D : Type 0} → Ghosts D → Opening → Keeper D → Type 0
KeeperStands disk opening keeper = ViewStands disk.tells opening (comes_back disk keeper.meta) (view_of disk keeper)

-- The session opened with the marks and the snapshot of this metadata, which alone a crash may bring back.
pub record IsOpenedOver {D : Type 0} (disk : Ghosts D) (opening : Opening) (meta : Meta D) : Type 0 where
  pub opens : IsOpening opening
  pub marks : opening.marks ≡ meta.marks
  pub held : opening.held ≡ snapshot_marks meta.snapshot
  pub total : opening.total ≡ disk.sectors meta.slots.disk / 8
  pub alone : disk.tells ≡ true → (meaning : Meaning) → comes_back disk meta meaning → meaning ≡ record { marks = opening.marks; held = opening.held }

-- What contracts see of a keeper after it drew an event at a place.
abbrev pub noted : KeeperView → Event → ℕ → KeeperView
noted view event place = record view {
  notes = record { entry = entry place event; moment = clock view.history; faults = view.faults } ∷ view.notes;
  state = keeper_with event place view.state;
  entries = view.entries ++ entry place event ∷ [];
}
