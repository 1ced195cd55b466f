-- What an opening of a metadata disk finds: what has to hold for it, in its order, with the device calls that are made for it, and how what doesn't hold is refused.
use Rattle.std.specs.Prelude.{◌≡◌, ◌≢◌, ℕ, ◌+◌, ◌/◌, ◌^◌, ◌<◌, ◌≤◌, ◌⊎◌, ◌||◌, ◌==◌, Bool, List, [], ◌∷◌, ◌++◌, map, slice_index, if◌then◌else◌}
use Rattle.std.specs.List.{AllByRecursion}
use Rattle.era_base.specs.declared.geometry.Geometry.{Geometry}
use Rattle.era_base.specs.declared.limits.TheConstants.{LAST_ERA}
use Rattle.era_base.specs.Geometry.{blocks_of, need_of}
use Rattle.era_layout.specs.declared.damage.DamageKind.TheVariants as kind
use Rattle.era_slots.specs.declared.opened.SlotError.{SlotError}
use Rattle.era_slots.specs.declared.opened.SlotError.TheVariants.{Fault as SlotFault, BadSequence, SequenceTie, Memory as SlotMemory}
use Rattle.era_slots.specs.Slot.{commit_number, IsBlank}
use Rattle.era_meta.specs.declared.finding.Finding.{Finding}
use Rattle.era_meta.specs.declared.finding.Finding.TheVariants as finding
use Rattle.era_meta.specs.declared.refusal.MetaError.{MetaError}
use Rattle.era_meta.specs.declared.refusal.MetaError.TheVariants.{MetaSmall, Fault, Unformatted, Damaged, WrongGeometry, EraEnd, SequenceEnd, Memory}
use Rattle.era_meta.specs.Content.{blocks_of_root}
use Rattle.era_meta.specs.Damage.{Damage, Test, SlotNumber, SlotNumbers, SlotRoot, Passes, Finds, SaysFirst, HasSize, root_tests, newest_slot, root_in, held_in}
use Rattle.era_meta.specs.Walks.{reads_of}

-- What has to hold for an opening: the disk has so many metadata blocks; so many device calls answer; a gate is open; a test of its bytes passes; the root is of the geometry that was asked for; an era is left; and numbers of commits are left.
pub data Trial : Type 0 where
  Room : ℕ → Trial
  Calls : ℕ → Trial
  Formatted : Trial
  Undamaged : Test → Trial
  SameAs : Geometry → Trial
  EraLeft : Trial
  NumbersLeft : Trial

-- How many whole metadata blocks so many sectors are.
abbrev pub metadata_blocks : ℕ → ℕ
metadata_blocks sectors = sectors / 8

-- A trial holds of a disk that has so many whole metadata blocks and reads as these bytes. That a device call answers is no matter of bytes.
abbrev pub Holds : ℕ → List ℕ → Trial → Type 0
Holds have seen (Room need) = need ≤ have
Holds have seen (Calls count) = Unit {0}
Holds have seen Formatted = ¬ IsBlank seen
Holds have seen (Undamaged test) = Passes seen test
Holds have seen (SameAs asked) = HasSize (root_in seen) asked.sectors asked.block_sectors
Holds have seen EraLeft = (root_in seen).era ≢ LAST_ERA
Holds have seen NumbersLeft = commit_number (newest_slot seen) seen < 2 ^ 62

-- A refusal by another geometry has both, the kept one and the one that was asked for.
abbrev pub IsOtherGeometry : List ℕ → Geometry → MetaError → Type 0
IsOtherGeometry seen asked error =
    (kept : Geometry) × HasSize (root_in seen) kept.sectors kept.block_sectors × (error ≡ WrongGeometry kept asked)

-- A trial doesn't hold, and this is how it is refused.
abbrev pub Refuses : ℕ → List ℕ → Trial → MetaError → Type 0
Refuses have seen (Room need) error = (have < need) × (error ≡ MetaSmall have need)
Refuses have seen (Calls count) error = ⊥
Refuses have seen Formatted error = IsBlank seen × (error ≡ Unformatted)
Refuses have seen (Undamaged test) error = (found : Damage) × Finds seen test found × (error ≡ Damaged found.kind found.block)
Refuses have seen (SameAs asked) error = (¬ HasSize (root_in seen) asked.sectors asked.block_sectors) × IsOtherGeometry seen asked error
Refuses have seen EraLeft error = ((root_in seen).era ≡ LAST_ERA) × (error ≡ EraEnd)
Refuses have seen NumbersLeft error =
    (2 ^ 62 ≤ commit_number (newest_slot seen) seen) × (error ≡ SequenceEnd (commit_number (newest_slot seen) seen))

-- All trials of a list hold.
abbrev pub HoldAll : ℕ → List ℕ → List Trial → Type 0
HoldAll have seen trials = AllByRecursion (Holds have seen) trials

-- The first trial of a list that doesn't hold is refused so.
abbrev pub RefusesFirst : ℕ → List ℕ → List Trial → MetaError → Type 0
RefusesFirst have seen trials error = SaysFirst (Holds have seen) (Refuses have seen) trials error

-- How many device calls are made for a trial.
abbrev pub calls_of : Trial → ℕ
calls_of (Room need) = 0
calls_of (Calls count) = count
calls_of Formatted = 0
calls_of (Undamaged test) = reads_of test
calls_of (SameAs asked) = 0
calls_of EraLeft = 0
calls_of NumbersLeft = 0

-- How many device calls are made for all trials of a list.
abbrev pub all_calls : List Trial → ℕ
all_calls [] = 0
all_calls (trial ∷ trials) = calls_of trial + all_calls trials

-- The last of so many device calls failed: it is one of a trial's, and all trials before that one hold, each with its calls.
abbrev pub FailsAfter : ℕ → List ℕ → List Trial → ℕ → Type 0
FailsAfter have seen [] calls = ⊥
FailsAfter have seen (trial ∷ trials) calls =
    ((0 < calls) × (calls ≤ calls_of trial))
    ⊎ (Holds have seen trial × ((rest : ℕ) × (calls ≡ calls_of trial + rest) × FailsAfter have seen trials rest))

-- Why an opening ended after so many device calls: by a fault at its place, or by the first trial that doesn't hold. Want of memory may come at any time.
abbrev pub EndsOpening : ℕ → List ℕ → List Trial → ℕ → MetaError → Type 0
EndsOpening have seen trials calls (Fault count) = FailsAfter have seen trials calls
EndsOpening have seen trials calls Memory = Unit {0}
EndsOpening have seen trials calls error = RefusesFirst have seen trials error

-- The trials of what an opening reads first: the sync and a read of each slot answer, and the commit numbers are in order.
abbrev pub number_trials : List Trial
number_trials = map Undamaged (SlotNumber 0 ∷ SlotNumber 1 ∷ SlotNumbers ∷ [])

-- The trials of what the newest root reaches: its geometry's blocks are there, and then all pages and the held root are undamaged.
abbrev pub root_trials : List ℕ → List Trial
root_trials seen = Room (need_of (blocks_of_root (root_in seen))) ∷ map Undamaged (root_tests (root_in seen) (held_in seen))

-- The trials of an opened disk behind those of its commit numbers: the roots of both slots, and all that the newest root reaches.
abbrev pub opened_trials : List ℕ → List Trial
opened_trials seen = map Undamaged (SlotRoot 0 ∷ SlotRoot 1 ∷ []) ++ root_trials seen

-- The trials of a look, in their order. No geometry needs fewer than 57 blocks. The first calls are a sync and a read of each slot.
abbrev pub look_trials : List ℕ → List Trial
look_trials seen = Room 57 ∷ Calls 3 ∷ Formatted ∷ number_trials ++ opened_trials seen

-- Whether a gate is open.
abbrev pub has_open_gate : List ℕ → Bool
has_open_gate seen = (slice_index seen 0 == 1) || (slice_index seen 4096 == 1)

-- The trials of a start behind those of an opened disk: the geometry is the one that was asked for, and an era and numbers are left.
abbrev pub begin_trials : Geometry → List Trial
begin_trials asked = SameAs asked ∷ EraLeft ∷ NumbersLeft ∷ []

-- The trials of a start, in their order, up to its commit. On a disk on which no gate is open nothing else has to hold.
abbrev pub start_trials : Geometry → List ℕ → List Trial
start_trials asked seen =
    Room (need_of (blocks_of asked.sectors asked.block_sectors)) ∷ Calls 3 ∷
    (if has_open_gate seen then number_trials ++ opened_trials seen ++ begin_trials asked else [])

-- What was found, as a refusal.
abbrev pub error_of_finding : Finding → MetaError
error_of_finding (finding.Fault count) = Fault count
error_of_finding (finding.Damage kind block) = Damaged kind block
error_of_finding finding.Memory = Memory

-- Why the slots weren't opened, as a refusal.
abbrev pub error_of_slots : SlotError → MetaError
error_of_slots (SlotFault count) = Fault count
error_of_slots (BadSequence slot) = Damaged kind.BadSequence slot
error_of_slots SequenceTie = Damaged kind.SequenceTie 1
error_of_slots SlotMemory = Memory
