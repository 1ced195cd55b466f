-- The laws of the crates below that lemmas take as premises. A function calls each law whose fact its proof needs.
use Rattle.std.proofs.Common.{◌≡◌, ℕ, ◌<◌, Bool, List}
use Rattle.era_base.specs.CrashModel.{State, Leaves}
use Rattle.era_layout.specs.Root.{RootFields, root_bytes, IsValidRoot}
use Rattle.era_slots.specs.Slot.{SlotIsOpen, page_of, IsActive}
use Rattle.era_slots.specs.Standing.{IsDurable, Stands}
use Rattle.era_slots.specs.Promise.{HasEither, IsSameBody}

abbrev pub LeftPages : Type 0
LeftPages = (block : ℕ) (state : State) → IsDurable block state → Leaves (λ image. page_of block image ≡ page_of block state.seen) state

abbrev pub EitherBody : Type 0
EitherBody = (target number : ℕ) (may_be_open : Bool) (now : State) → Stands target number may_be_open now
    → Leaves (HasEither target number may_be_open now) now

abbrev pub OpenBodies : Type 0
OpenBodies = (target number slot : ℕ) (may_be_open : Bool) (now : State) → Stands target number may_be_open now → slot < 2
    → Leaves (λ image. SlotIsOpen slot image → IsSameBody slot now.seen image) now

abbrev pub OneRoot : Type 0
OneRoot = (one other : RootFields) → IsValidRoot one → IsValidRoot other → root_bytes one ≡ root_bytes other → one ≡ other

abbrev pub OneActive : Type 0
OneActive = (slot beside : ℕ) (bytes : List ℕ) → slot < 2 → beside < 2 → IsActive slot bytes → IsActive beside bytes → slot ≡ beside
