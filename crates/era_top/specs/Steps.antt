-- What running commands does to the marks in memory and to the disk.
use Rattle.std.specs.Prelude.{◌≡◌, ℕ, ◌+◌, ◌*◌, ◌/◌, ◌<◌, ◌≤◌, not, Bool, true, false, List, [], ◌∷◌, ◌++◌, length, take, Some, None}
use Rattle.era_base.specs.Flags.{has}
use Rattle.era_base.specs.declared.geometry.Geometry.{Geometry}
use Rattle.era_base.specs.Bytes.{splice}
use Rattle.era_base.specs.CrashModel.{State, SameBut, IsClean}
use Rattle.era_base.specs.Faults.{Rose}
use Rattle.era_base.specs.declared.limits.TheConstants.{LAST_ERA}
use Rattle.era_base.specs.Geometry.{blocks_of}
use Rattle.era_model.specs.declared.history.Happening.{Happening}
use Rattle.era_model.specs.Conditions.{ListsExactly}
use Rattle.era_model.specs.Counts.{CountsAreWithin}
use Rattle.era_model.specs.History.{content, era_of, in_flight}
use Rattle.era_model.specs.MarkLaws.{LastsAreBounded, MarkGivesEra, SwitchKeepsMarks}
use Rattle.era_model.specs.Marks.{BlockMarks, blocks_of_marks, rolled, with_block, written_since}
use Rattle.era_model.specs.StreamLists.{IsWrittenSince}
use Rattle.era_model.specs.Writes.{block_bytes}
use Rattle.era_model.specs.declared.command.Request.{Request}
use Rattle.era_model.specs.declared.command.Request.TheVariants.{Checkpoint, List as ListRequest}
use Rattle.era_model.specs.declared.command.Task.{Task}
use Rattle.era_model.specs.declared.command.Task.TheVariants.{Write as WriteTask, Ask}
use Rattle.era_top.specs.declared.outcome.Outcome.{Outcome}
use Rattle.era_top.specs.declared.outcome.Outcome.TheVariants.{OutOfRange, Done, Cut, Moved, LastEra, Listed, NoMemory}
use Rattle.era_top.specs.Outcomes.{era_after_all}
use Rattle.era_top.specs.Runs.{commands_from, place_of_write, some_cut, IsBetween, IsJournalOf, ReadsAsJournal, Write}

-- The write's sectors lie in a block, from a sector of it on.
pub record LiesInBlock (g : Geometry) (write : Write) (place : ℕ × ℕ) : Type 0 where
  pub found : place_of_write g write ≡ Some place
  pub block : place.0 < blocks_of g.sectors g.block_sectors
  pub sector : place.0 * g.block_sectors + place.1 ≡ write.sector
  pub in_block : place.1 + length write.bytes / 512 ≤ g.block_sectors
  pub in_origin : write.sector + length write.bytes / 512 ≤ g.sectors

-- The write lies in a block, and marks it exactly where the block has no mark of the era.
pub record Marks (g : Geometry) (write : Write) (old new : BlockMarks) (marks : Bool) : Type 0 where
  pub place : ℕ × ℕ
  pub placed : LiesInBlock g write place
  pub was : has old.current place.0 ≡ not marks
  pub now : new ≡ with_block old place.0
  pub lasts : MarkGivesEra old place.0
  pub bounded : LastsAreBounded old

-- What is on the disk after a write and a sync.
pub record HoldsWrite (write : Write) (old new : State) : Type 0 where
  pub seen : new.seen ≡ splice old.seen (write.sector * 512) write.bytes
  pub clean : IsClean new

-- What is on the disk after a write or a sync that failed: outside of the write's sectors nothing has changed.
abbrev pub IsTorn : Write → State → State → Type 0
IsTorn write old new = SameBut (write.sector * 512) (write.sector * 512 + length write.bytes) old new

-- The count of the disk rose, and the outcome tells it.
pub record TellsFault (before now told : ℕ) : Type 0 where
  pub told_now : told ≡ now
  pub rose : Rose before now

-- How one write changed the marks, the disk's count of faults and, where the disk tells it, its state.
abbrev pub WriteWent : Geometry → Write → Bool → BlockMarks → BlockMarks → ℕ → ℕ → State → State → Outcome → Type 0
WriteWent g write tells marks marks' faults faults' disk disk' OutOfRange =
    (place_of_write g write ≡ None) × (marks' ≡ marks) × (faults' ≡ faults) × (tells ≡ true → disk' ≡ disk)
WriteWent g write tells marks marks' faults faults' disk disk' (Done first) =
    Marks g write marks marks' first × (faults' ≡ faults) × (tells ≡ true → HoldsWrite write disk disk')
WriteWent g write tells marks marks' faults faults' disk disk' (Cut first told) =
    Marks g write marks marks' first × TellsFault faults faults' told × (tells ≡ true → IsTorn write disk disk')
WriteWent g write tells marks marks' faults faults' disk disk' outcome = ⊥

-- How a checkpoint changed the marks: they moved to the next era, which the outcome tells, or the era is the last one and nothing changed.
abbrev pub MovesEra : BlockMarks → BlockMarks → Outcome → Type 0
MovesEra marks marks' (Moved era) =
    (marks.era < LAST_ERA) × (era ≡ marks.era + 1) × (marks' ≡ rolled marks) × SwitchKeepsMarks marks
MovesEra marks marks' LastEra = (marks.era ≡ LAST_ERA) × (marks' ≡ marks)
MovesEra marks marks' outcome = ⊥

-- What a list since an era tells: exactly the blocks that the marks have since it, or that memory was refused.
abbrev pub TellsBlocks : BlockMarks → ℕ → Outcome → Type 0
TellsBlocks marks since (Listed blocks) = ListsExactly (blocks_of_marks marks) (written_since marks since) blocks
TellsBlocks marks since NoMemory = Unit {0}
TellsBlocks marks since outcome = ⊥

-- How a request went. A list changes no mark. No other request is served.
abbrev pub AnswersRequest : BlockMarks → BlockMarks → Request → Outcome → Type 0
AnswersRequest marks marks' Checkpoint outcome = MovesEra marks marks' outcome
AnswersRequest marks marks' (ListRequest since false) outcome = (marks' ≡ marks) × TellsBlocks marks since outcome
AnswersRequest marks marks' request outcome = ⊥

-- How a task changed the marks, the disk's count of faults and, where the disk tells it, its state. A request leaves the disk alone. No read is served.
abbrev pub TaskWent : Geometry → Task → Bool → BlockMarks → BlockMarks → ℕ → ℕ → State → State → Outcome → Type 0
TaskWent g (WriteTask sector bytes) tells marks marks' faults faults' disk disk' outcome =
    WriteWent g (record { sector = sector; bytes = bytes }) tells marks marks' faults faults' disk disk' outcome
TaskWent g (Ask request) tells marks marks' faults faults' disk disk' outcome =
    AnswersRequest marks marks' request outcome × (faults' ≡ faults) × (disk' ≡ disk)
TaskWent g task tells marks marks' faults faults' disk disk' outcome = ⊥

-- The last command was a write that was cut, and its outcome tells this count of faults.
pub record EndInCut (outcomes : List Outcome) (count : ℕ) : Type 0 where
  pub before : List Outcome
  pub marks : Bool
  pub last : outcomes ≡ before ++ Cut marks count ∷ []

-- Commands were run in order, up to the first write that was cut, with the journal of those that were run, which is in this era: what the disk's count of faults did, what the origin reads as, and that nothing is pending after the last write in range.
pub record HaveRun (g : Geometry) (contents : List ℕ) (tasks : List Task) (outcomes : List Outcome) (tells : Bool) (era faults faults' : ℕ) (disk disk' : State) (h : List Happening) : Type 0 where
  pub count : length outcomes ≤ length tasks
  pub whole : some_cut outcomes ≡ false → length outcomes ≡ length tasks
  pub journal : IsJournalOf g contents (take (length outcomes) tasks) outcomes h
  pub present : era ≡ era_of h
  pub counts : CountsAreWithin (λ _. faults) (λ _. faults') h
  pub rose : some_cut outcomes ≡ true → Rose faults faults'
  pub kept : some_cut outcomes ≡ false → faults' ≡ faults
  pub quiet : some_cut outcomes ≡ false → in_flight h ≡ []
  pub stopped : some_cut outcomes ≡ true → in_flight h ≡ [] → ⊥
  pub last : some_cut outcomes ≡ true → EndInCut outcomes faults'
  pub reads : tells ≡ true → contents ≡ disk.seen → ReadsAsJournal g h disk'.seen
  pub clean : tells ≡ true → some_cut outcomes ≡ false
      → (block : ℕ) → IsWrittenSince g (commands_from 0 (take (length outcomes) tasks)) 1 block → IsClean disk'

-- Commands were run in order, none of which was a write that was cut, with their journal: the marks follow it, and where the disk tells it, the origin has the content that it says and nothing is pending after a write in range.
pub record Running (g : Geometry) (contents : List ℕ) (tasks : List Task) (outcomes : List Outcome) (marks : BlockMarks) (tells : Bool) (faults faults' : ℕ) (disk disk' : State) (h : List Happening) : Type 0 where
  pub journal : IsJournalOf g contents tasks outcomes h
  pub between : IsBetween g tasks marks (era_after_all 1 outcomes) h
  pub count : length outcomes ≡ length tasks
  pub no_cut : some_cut outcomes ≡ false
  pub kept : faults' ≡ faults
  pub reads : tells ≡ true → contents ≡ disk.seen → (block : ℕ) → block < blocks_of g.sectors g.block_sectors → content h block ≡ block_bytes g.block_sectors disk'.seen block
  pub clean : tells ≡ true → (block : ℕ) → IsWrittenSince g (commands_from 0 tasks) 1 block → IsClean disk'

-- Commands were run behind others of the same session, up to the first write that was cut: their journal, and, where none was cut, that more commands can be run behind them.
pub record HaveRunOn (g : Geometry) (contents : List ℕ) (tasks : List Task) (outcomes : List Outcome) (marks : BlockMarks) (tells : Bool) (faults faults' : ℕ) (disk disk' : State) : Type 0 where
  pub journal : List Happening
  pub run : HaveRun g contents tasks outcomes tells marks.era faults faults' disk disk' journal
  pub on : some_cut outcomes ≡ false → Running g contents tasks outcomes marks tells faults faults' disk disk' journal

-- Commands were run behind any that were run before them, as many as a session may have together.
abbrev pub RunBehind : Geometry → List Task → List Outcome → Bool → BlockMarks → BlockMarks → ℕ → ℕ → State → State → Type 0
RunBehind g tasks outcomes tells marks marks' faults faults' disk disk' =
    (contents : List ℕ) (before : List Task) (done : List Outcome) (at_first : ℕ) (first : State) (h : List Happening)
    → length before + length tasks ≤ 65536
    → Running g contents before done marks tells at_first faults first disk h
    → HaveRunOn g contents (before ++ tasks) (done ++ outcomes) marks' tells at_first faults' first disk'

-- A list of outcomes is empty, and has room for so many.
pub record IsRoomFor (count : ℕ) (outcomes : List Outcome) (room : ℕ) : Type 0 where
  pub none : outcomes ≡ []
  pub enough : count ≤ room

-- Of so many commands each was run, up to the first write that was cut: the disk's count of faults rose with it, and is as it was where none was cut.
pub record StopsWhereCut (count : ℕ) (outcomes : List Outcome) (faults faults' : ℕ) : Type 0 where
  pub few : length outcomes ≤ count
  pub whole : some_cut outcomes ≡ false → length outcomes ≡ count
  pub rose : some_cut outcomes ≡ true → Rose faults faults'
  pub kept : some_cut outcomes ≡ false → faults' ≡ faults
