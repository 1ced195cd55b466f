-- The first commit on a blank disk: what it asks, and what it leaves.
use Rattle.std.specs.Prelude.{◌⊎◌, false, None}
use Rattle.era_base.specs.CrashModel.{State, Leaves}
use Rattle.era_layout.specs.Root.{RootFields}
use Rattle.era_model.specs.Marks.{BlockMarks}
use Rattle.era_slots.specs.Slot.{IsBlank}
use Rattle.era_slots.specs.Standing.{Stands}
use Rattle.era_meta.specs.Keeping.{HasRoom}
use Rattle.era_meta.specs.Meaning.{Meaning, pages_in, IsWholeRoot, IsImageOf}

-- Marks without a snapshot.
abbrev pub marks_alone : BlockMarks → Meaning
marks_alone marks = record { marks = marks; held = None }

-- Each crash image is blank, or stands for a meaning.
abbrev pub LeavesBlankOr : Meaning → State → Type 0
LeavesBlankOr meaning now = Leaves (λ image. IsBlank image ⊎ IsImageOf meaning image) now

-- A root without a snapshot may be the first that is committed: its pages are put, behind slots of which neither gate is open.
pub record MayBeFirst (next : RootFields) (now : State) : Type 0 where
  pub stands : Stands 0 0 false now
  pub whole : IsWholeRoot (pages_in now.seen) next None
  pub room : HasRoom next now
