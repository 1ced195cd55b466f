-- The promise of the slots: what each moment of each call is to the state before the call.
use Rattle.std.specs.Prelude.{◌≡◌, ◌≢◌, ℕ, ◌+◌, ◌*◌, ◌<◌, ◌≤◌, ◌⊎◌, Bool, true, false, List}
use Rattle.era_base.specs.CrashModel.{State, SameBut, Leaves, IsClean}
use Rattle.era_slots.specs.Slot.{other, gate_of, commit_number, body_of, page_of, IsBlank, Stores, open_gate}
use Rattle.era_slots.specs.Standing.{IsCleanBut, IsDurable, Stands}

-- The image has the committed body of a state, with its number and in its slot; where there is none, neither gate is open.
pub record HasCommitted (target number : ℕ) (before : State) (image : List ℕ) : Type 0 where
  pub blank : number ≡ 0 → IsBlank image
  pub committed : 0 < number → Stores (other target) number (body_of (other target) before.seen) image

-- The image has the body of the commit that failed in opening its gate.
pub record HasFailed (target number : ℕ) (before : State) (image : List ℕ) : Type 0 where
  pub failed : commit_number target before.seen ≡ number + 1
  pub stored : Stores target (number + 1) (body_of target before.seen) image

-- The image has the committed body, or that of the commit that failed in opening its gate, where that gate may be open.
abbrev pub HasEither : ℕ → ℕ → Bool → State → List ℕ → Type 0
HasEither target number may_be_open before image =
    HasCommitted target number before image ⊎ ((may_be_open ≡ true) × HasFailed target number before image)

-- A slot's number and body are what they were.
pub record KeepsBody (slot : ℕ) (before now : State) : Type 0 where
  pub numbered : commit_number slot now.seen ≡ commit_number slot before.seen
  pub holds : body_of slot now.seen ≡ body_of slot before.seen

-- The image has in a slot the number and the body that a read gives there.
pub record IsSameBody (slot : ℕ) (seen image : List ℕ) : Type 0 where
  pub numbered : commit_number slot image ≡ commit_number slot seen
  pub holds : body_of slot image ≡ body_of slot seen

-- What a read gives of each metadata block behind the slots stays, and what was on the disk stays there; one block is left out.
pub record KeepsPages (but : ℕ) (before after : State) : Type 0 where
  pub seen : (block : ℕ) → 2 ≤ block → block ≢ but → page_of block after.seen ≡ page_of block before.seen
  pub durable : (block : ℕ) → 2 ≤ block → block ≢ but → IsDurable block before → IsDurable block after

-- A moment of `begin`: the committed body, or that of a commit that failed in opening its gate, which the gate may be open over.
pub record Begins (target number : ℕ) (may_be_open : Bool) (before now : State) : Type 0 where
  pub images : Leaves (HasEither target number may_be_open before) now
  pub same : SameBut (4096 * target) (4096 * target + 512) before now
  pub kept : KeepsBody (other target) before now
  pub failed : KeepsBody target before now
  pub pages : KeepsPages target before now
  pub stands : Stands target number may_be_open now

-- A moment of `put_page`: the committed body alone, and no other block has changed.
pub record PutsPage (target number block : ℕ) (before now : State) : Type 0 where
  pub images : Leaves (HasCommitted target number before) now
  pub same : SameBut (4096 * block) (4096 * block + 4096) before now
  pub kept : KeepsBody (other target) before now
  pub pages : KeepsPages block before now
  pub stands : Stands target number false now

-- A moment of `commit` at which only the committed body can be there after a crash: the new one is under a closed gate.
pub record IsStaged (target number : ℕ) (before now : State) : Type 0 where
  pub images : Leaves (HasCommitted target number before) now
  pub same : SameBut (4096 * target + 512) (4096 * target + 4096) before now
  pub stands : Stands target number false now

-- A moment of `commit` at which all but the gate's sector is on the disk, the new body and the pages put before it.
pub record IsSealed (target number : ℕ) (body : List ℕ) (before now : State) : Type 0 where
  pub images : Leaves (λ image. HasCommitted target number before image ⊎ Stores target (number + 1) body image) now
  pub stands : Stands target number true now
  pub numbered : commit_number target now.seen ≡ number + 1
  pub holds : body_of target now.seen ≡ body
  pub durable : IsCleanBut (4096 * target) (4096 * target + 512) now

-- A moment of `commit`: the old body or the new one, and no sector outside the target's slot has changed.
pub record Commits (target number : ℕ) (body : List ℕ) (before now : State) : Type 0 where
  pub step : IsStaged target number before now ⊎ IsSealed target number body before now
  pub same : SameBut (4096 * target) (4096 * target + 4096) before now
  pub kept : KeepsBody (other target) before now
  pub pages : KeepsPages target before now

-- The state after a `commit` that answered Ok: each crash image has the new body alone, all is on the disk, and the gate's sector is 1 and then zeros.
pub record IsStored (target number : ℕ) (body : List ℕ) (now : State) : Type 0 where
  pub images : Leaves (Stores target (number + 1) body) now
  pub clean : IsClean now
  pub holds : body_of target now.seen ≡ body
  pub gate : gate_of target now.seen ≡ open_gate
  pub older : 0 < number → commit_number (other target) now.seen ≡ number

-- The state after a `commit` that failed: the gate may be open exactly where its write was begun, and then the new body is on the disk under it.
pub record IsFailed (target number : ℕ) (may_be_open : Bool) (body : List ℕ) (before now : State) : Type 0 where
  pub staged : may_be_open ≡ false → IsStaged target number before now
  pub sealed : may_be_open ≡ true → IsSealed target number body before now
