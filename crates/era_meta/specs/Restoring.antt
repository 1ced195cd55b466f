-- How a disk is wiped before it gets other marks, and what each moment of it leaves. A definition takes the members of the disk's trait, as `D.Disk`.
use Rattle.std.specs.Prelude.{◌≡◌, ℕ, ◌+◌, ◌*◌, ◌<◌, ◌≤◌, ◌⊎◌, ◌↔◌, true, List, Result, Ok, Err}
use Rattle.era_base.specs.Calls.{MakesCalls}
use Rattle.era_base.specs.CrashModel.{State, Leaves, IsCrashImage}
use Rattle.era_base.specs.declared.disk.Disk.{Ghosts}
use Rattle.era_model.specs.Marks.{BlockMarks}
use Rattle.era_slots.specs.Wiping.{open_gates}
use Rattle.era_meta.specs.declared.metadata.Meta.{Meta}
use Rattle.era_meta.specs.FormatCalls.{IsFormatted, first_calls}
use Rattle.era_slots.specs.declared.heads.Head.{Head}
use Rattle.era_slots.specs.declared.slots.Slots.{Slots}
use Rattle.era_slots.specs.Slot.{SlotIsOpen, commit_number, body_of, IsBlank}
use Rattle.era_meta.specs.declared.refusal.MetaError.{MetaError}
use Rattle.era_meta.specs.declared.refusal.MetaError.TheVariants.{MetaSmall, Fault, Unformatted, Damaged, WrongGeometry, EraEnd, SequenceEnd, Memory}
use Rattle.era_meta.specs.declared.refusal.MetaRefusal.{MetaRefusal}
use Rattle.era_meta.specs.Meaning.{Meaning, IsRootBody, IsImageOf}
use Rattle.era_meta.specs.Trials.{metadata_blocks}

-- Both gates are open, and the second one is over the smaller commit number.
pub record HasOlder (first second : Head) : Type 0 where
  pub own : first.is_open ≡ true
  pub beside : second.is_open ≡ true
  pub older : second.number < first.number

-- Both gates are open over roots, and slot 1 has the smaller commit number.
pub record IsSecondOlder (seen : List ℕ) : Type 0 where
  pub first : SlotIsOpen 0 seen
  pub second : SlotIsOpen 1 seen
  pub older : commit_number 1 seen < commit_number 0 seen
  pub own : IsRootBody (body_of 0 seen)
  pub beside : IsRootBody (body_of 1 seen)

-- The slot whose gate is closed first where both are open: slot 1 exactly where it has the older of two roots, and else slot 0.
pub record IsClosedFirst (seen : List ℕ) (slot : ℕ) : Type 0 where
  pub two : slot < 2
  pub second : (slot ≡ 1) ↔ IsSecondOlder seen

-- The disk of a wiping, in the slots or in the refusal.
abbrev pub wiped_disk : {D : Type 0} → Result (Slots D) (MetaRefusal D) → D
wiped_disk (Ok slots) = slots.disk
wiped_disk (Err refusal) = refusal.disk

-- An image that a wiping may leave of a disk that read so: where that stood for a meaning, it stands for the same or is blank, and of a blank disk it is blank.
pub record IsImageWhileWiping (seen image : List ℕ) : Type 0 where
  pub marks : (old : Meaning) → IsImageOf old seen → IsImageOf old image ⊎ IsBlank image
  pub blank : IsBlank seen → IsBlank image

-- An image that a restoring to a meaning may leave of a disk that read so: where that stood for one, it stands for the same or for the new one or is blank, and of a blank disk it is blank or stands for the new one.
pub record IsImageWhileRestoring (meaning : Meaning) (seen image : List ℕ) : Type 0 where
  pub marks : (old : Meaning) → IsImageOf old seen → IsImageOf old image ⊎ (IsBlank image ⊎ IsImageOf meaning image)
  pub blank : IsBlank seen → IsBlank image ⊎ IsImageOf meaning image

-- A moment of a wiping: each crash image was possible before, or is one that the wiping may leave.
abbrev pub LeavesWiping : State → State → Type 0
LeavesWiping before now = Leaves (λ image. IsCrashImage before image ⊎ IsImageWhileWiping before.seen image) now

-- A moment of a restoring: each crash image was possible before, or is one that the restoring may leave.
abbrev pub LeavesRestoring : Meaning → State → State → Type 0
LeavesRestoring meaning before now = Leaves (λ image. IsCrashImage before image ⊎ IsImageWhileRestoring meaning before.seen image) now

-- What a disk held was replaced by marks: the disk was wiped by six device calls and two for each gate that was open, and formatted with the marks.
pub record RestoresDisk {D : Type 0} (disk : Ghosts D) (m : BlockMarks) (old : D) (meta : Meta D) : Type 0 where
  pub formatted : IsFormatted disk m meta
  pub calls : MakesCalls disk (6 + 2 * open_gates (disk.history old).now.seen + first_calls m) old meta.slots.disk

-- The refusal is a fault.
abbrev pub IsOnlyFault : MetaError → Type 0
IsOnlyFault (Fault count) = Unit {0}
IsOnlyFault (MetaSmall have need) = ⊥
IsOnlyFault Unformatted = ⊥
IsOnlyFault (Damaged kind block) = ⊥
IsOnlyFault (WrongGeometry kept asked) = ⊥
IsOnlyFault EraEnd = ⊥
IsOnlyFault (SequenceEnd number) = ⊥
IsOnlyFault Memory = ⊥

-- Why a disk doesn't get other marks, which need so many metadata blocks: too few blocks and want of memory come before any device call, and a fault only where the blocks are enough.
abbrev pub RefusesRestore : {D : Type 0} → Ghosts D → ℕ → D → D → MetaError → Type 0
RefusesRestore disk least old new (MetaSmall have need) =
    (have ≡ metadata_blocks (disk.sectors old)) × (need ≡ least) × (have < need) × (new ≡ old)
RefusesRestore disk least old new Memory = (least ≤ metadata_blocks (disk.sectors old)) × (new ≡ old)
RefusesRestore disk least old new (Fault count) = least ≤ metadata_blocks (disk.sectors old)
RefusesRestore disk least old new Unformatted = ⊥
RefusesRestore disk least old new (Damaged kind block) = ⊥
RefusesRestore disk least old new (WrongGeometry kept asked) = ⊥
RefusesRestore disk least old new EraEnd = ⊥
RefusesRestore disk least old new (SequenceEnd number) = ⊥
