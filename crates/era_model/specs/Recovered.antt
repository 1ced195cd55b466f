-- Which marks and snapshot may be found on the metadata disk after a crash, and which must be found where a session ended.
use Rattle.std.specs.Prelude.{◌≡◌, ◌≢◌, ◌⊎◌, ℕ, ◌+◌, ◌<◌, ◌||◌, not, Bool, true, false, List, [], ◌∷◌, Option, Some, None, is_some, if◌then◌else◌}
use Rattle.era_model.specs.declared.event.Event.{Event}
use Rattle.era_model.specs.declared.event.Event.TheVariants.{Mark, Roll, Snap, Dropped, Digest, Refused}
use Rattle.era_model.specs.declared.event.Kind.{Kind}
use Rattle.era_model.specs.declared.event.Kind.TheVariants.{Write as WriteKind, Checkpoint as CheckpointKind, TakeSnap as TakeSnapKind, DropSnap as DropSnapKind}
use Rattle.era_model.specs.declared.event.Why.TheVariants.{MetaFault}
use Rattle.era_model.specs.declared.history.Happening.{Happening}
use Rattle.era_model.specs.declared.history.Happening.TheVariants.{Opened, Happened, Crashed}
use Rattle.era_model.specs.Events.{is_metadata_fault_of}
use Rattle.era_model.specs.Marks.{BlockMarks, marks_last_era}
use Rattle.era_model.specs.History.{at_opening, blocks_now, era_of}
use Rattle.era_model.specs.Marking.{journal_last_era, marks_of, held_of, is_tried_in, some_event, switch_before_refusals}
use Rattle.era_model.specs.Validity.{AreValidMarks, IsValidSnapshot}

-- Marks have for the block the last marked era that the journal gives it.
abbrev pub HasJournalLast : List Happening → BlockMarks → ℕ → Type 0
HasJournalLast h m block = marks_last_era m block ≡ journal_last_era h block

-- Marks have for the block a later era than the journal gives it, and the session asked for the block's mark in that era.
pub record IsBeyond (h : List Happening) (m : BlockMarks) (block : ℕ) : Type 0 where
  pub later : journal_last_era h block < marks_last_era m block
  pub tried : is_tried_in h block (marks_last_era m block) ≡ true

-- Marks have the journal's last marked era for each block, but for one exceptional block, if there is one, that they have beyond the journal.
abbrev pub HaveJournalLasts : List Happening → BlockMarks → Option ℕ → Type 0
HaveJournalLasts h m None = (block : ℕ) → block < blocks_now h → HasJournalLast h m block
HaveJournalLasts h m (Some exception) =
    IsBeyond h m exception × ((block : ℕ) → block < blocks_now h → block ≢ exception → HasJournalLast h m block)

-- The era of marks that may be recovered: the present one, or the one before it where the metadata has drawn nothing but refusals since the session's last switch.
abbrev pub MayHaveEra : List Happening → ℕ → Type 0
MayHaveEra h era = (era ≡ era_of h) ⊎ ((era + 1 ≡ era_of h) × (is_some (switch_before_refusals h) ≡ true))

-- The marks are those of the session at some moment up to the present one.
abbrev pub WereMarks : List Happening → BlockMarks → Type 0
WereMarks [] m = ⊥
WereMarks (Opened opening ∷ earlier) m = m ≡ opening.marks
WereMarks (Happened event ∷ earlier) m = (m ≡ marks_of (Happened event ∷ earlier)) ⊎ WereMarks earlier m
WereMarks (Crashed images ∷ earlier) m = ⊥

-- A snapshot may be found where none is held: the marks of a moment of the session.
abbrev pub IsSnapshotTaken : List Happening → Option BlockMarks → Type 0
IsSnapshotTaken h None = ⊥
IsSnapshotTaken h (Some m) = WereMarks h m

-- The snapshot that may be found: the one that is held; or where none is held, one whose taking was cut off; or none where one is held, since its dropping was cut off.
abbrev pub MayHold : List Happening → Option BlockMarks → Option BlockMarks → Type 0
MayHold h None found = (found ≡ None) ⊎ IsSnapshotTaken h found
MayHold h (Some held) found = (found ≡ Some held) ⊎ (found ≡ None)

-- Marks and a snapshot may be recovered after a crash at this moment: they are valid and of the origin's geometry, have the journal's last marked eras but for one exceptional block at most, and an era and a snapshot that may be found.
pub record IsRecoveredFrom (h : List Happening) (m : BlockMarks) (found : Option BlockMarks) : Type 0 where
  pub valid : AreValidMarks m
  pub sectors : m.sectors ≡ at_opening 0 (λ opening. opening.geometry.sectors) h
  pub block_sectors : m.block_sectors ≡ at_opening 0 (λ opening. opening.geometry.block_sectors) h
  pub exception : Option ℕ
  pub lasts : HaveJournalLasts h m exception
  pub era : MayHaveEra h m.era
  pub valid_snapshot : IsValidSnapshot found
  pub snapshot : MayHold h (held_of h) found

-- Whether the event is committed to the metadata disk in this journal: a mark, a taking or dropping of the snapshot, a digest, or an era switch whose command wasn't told that the metadata disk failed.
abbrev pub is_committed : List Happening → Event → Bool
is_committed journal (Mark id block era) = true
is_committed journal (Snap id block) = true
is_committed journal (Dropped id) = true
is_committed journal (Digest id era page) = true
is_committed journal (Roll id era) = not (some_event journal (is_metadata_fault_of id))
is_committed journal event = false

-- Whether the event is that the metadata disk failed for a command of a kind that passes the test.
abbrev pub is_metadata_fault : (Kind → Bool) → Event → Bool
is_metadata_fault test (Refused id kind (MetaFault count)) = test kind
is_metadata_fault test event = false

-- Whether a fault of the metadata disk for a command of such a kind stands in the session's journal up to here, with no committed event after it.
abbrev pub fails_after_commits : (Kind → Bool) → List Happening → List Happening → Bool
fails_after_commits test journal [] = false
fails_after_commits test journal (Opened opening ∷ earlier) = false
fails_after_commits test journal (Happened event ∷ earlier) =
    if is_committed journal event then false else (is_metadata_fault test event || fails_after_commits test journal earlier)
fails_after_commits test journal (Crashed images ∷ earlier) = false

-- Whether a command of the kind marks blocks.
abbrev pub is_write : Kind → Bool
is_write WriteKind = true
is_write kind = false

-- Whether a command of the kind moves the era.
abbrev pub is_switch : Kind → Bool
is_switch CheckpointKind = true
is_switch kind = false

-- Whether a command of the kind takes or drops the snapshot.
abbrev pub changes_snapshot : Kind → Bool
changes_snapshot TakeSnapKind = true
changes_snapshot DropSnapKind = true
changes_snapshot kind = false

-- Marks and a snapshot are durable where the session ended: they may be recovered, and they have the journal's last marked era for each block unless a write failed at the metadata disk behind the last commit, its era unless a checkpoint did, and its snapshot unless a taking or dropping did.
pub record IsDurableFrom (h : List Happening) (m : BlockMarks) (found : Option BlockMarks) : Type 0 where
  pub recovered : IsRecoveredFrom h m found
  pub lasts : fails_after_commits is_write h h ≡ false → HaveJournalLasts h m None
  pub era : fails_after_commits is_switch h h ≡ false → m.era ≡ era_of h
  pub snapshot : fails_after_commits changes_snapshot h h ≡ false → found ≡ held_of h
