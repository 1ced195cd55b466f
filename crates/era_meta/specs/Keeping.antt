-- What holds of a metadata disk at every moment between the calls and inside them, and what a crash may leave then.
use Rattle.std.specs.Prelude.{◌≡◌, ℕ, ◌+◌, ◌*◌, ◌<◌, ◌≤◌, ◌⊎◌, Bool, true, List, length, Option}
use Rattle.std.specs.List.{AllByRecursion}
use Rattle.era_base.specs.Geometry.{need_of}
use Rattle.era_base.specs.CrashModel.{State, Leaves}
use Rattle.era_layout.specs.Root.{RootFields, root_bytes}
use Rattle.era_slots.specs.Slot.{other, commit_number, body_of}
use Rattle.era_slots.specs.Standing.{IsDurable, Stands}
use Rattle.era_meta.specs.Content.{blocks_of_root}
use Rattle.era_meta.specs.Meaning.{Meaning, pages_in, meaning_of, reached, IsRootBody, IsWholeRoot, IsImageOf}

-- The blocks that a root's geometry needs are on the disk.
abbrev pub HasRoom : RootFields → State → Type 0
HasRoom root now = 4096 * need_of (blocks_of_root root) ≤ length now.seen

-- What a root and its held root say, as the disk is read.
abbrev pub stored_in : State → RootFields → Option RootFields → Meaning
stored_in now root held = meaning_of (pages_in now.seen) root held

-- A whole root with its held root, of which each block that they reach is on the disk.
pub record IsKept (root : RootFields) (held : Option RootFields) (now : State) : Type 0 where
  pub whole : IsWholeRoot (pages_in now.seen) root held
  pub room : HasRoom root now
  pub durable : AllByRecursion (λ block. IsDurable block now) (reached root held)

-- The slot of the next commit has the bytes of a whole root that is kept: that of a commit that failed in opening its gate.
pub record KeepsFailed (target : ℕ) (now : State) : Type 0 where
  pub root : RootFields
  pub held : Option RootFields
  pub spelled : body_of target now.seen ≡ root_bytes root
  pub kept : IsKept root held now

-- What lies under the gate of the next commit's slot: a root's bytes, and where its commit failed, all that the root reaches.
pub record IsRetained (target number : ℕ) (now : State) : Type 0 where
  pub spelled : IsRootBody (body_of target now.seen)
  pub failed : commit_number target now.seen ≡ number + 1 → KeepsFailed target now

-- The disk keeps a committed root with its held root, and what a crash may bring back in place of it.
pub record Keeps (target number : ℕ) (may_be_open : Bool) (root : RootFields) (held : Option RootFields) (now : State) : Type 0 where
  pub stands : Stands target number may_be_open now
  pub formatted : 0 < number
  pub spelled : body_of (other target) now.seen ≡ root_bytes root
  pub kept : IsKept root held now
  pub left : may_be_open ≡ true → IsRetained target number now

-- The last commit failed in opening its gate, and was storing this meaning.
pub record IsLeft (target number : ℕ) (left : Meaning) (now : State) : Type 0 where
  pub root : RootFields
  pub held : Option RootFields
  pub numbered : commit_number target now.seen ≡ number + 1
  pub spelled : body_of target now.seen ≡ root_bytes root
  pub whole : IsWholeRoot (pages_in now.seen) root held
  pub says : left ≡ stored_in now root held

-- The image stands for what a commit that failed in opening its gate was storing, where that gate may be open.
abbrev pub IsOfLeft : ℕ → ℕ → Bool → State → List ℕ → Type 0
IsOfLeft target number may_be_open before image =
    (may_be_open ≡ true) × ((left : Meaning) × IsLeft target number left before × IsImageOf left image)

-- Each crash image stands for one of two meanings.
abbrev pub LeavesEither : Meaning → Meaning → State → Type 0
LeavesEither one two now = Leaves (λ image. IsImageOf one image ⊎ IsImageOf two image) now

-- Each crash image stands for the old meaning or the new one, or for what a failed commit had left before.
abbrev pub MayLeave : ℕ → ℕ → Bool → Meaning → Meaning → State → State → Type 0
MayLeave target number may_be_open old new before now =
    Leaves (λ image. (IsImageOf old image ⊎ IsImageOf new image) ⊎ IsOfLeft target number may_be_open before image) now
