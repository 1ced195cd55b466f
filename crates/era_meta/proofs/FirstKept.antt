-- The first commit on a blank disk: each image is blank or of the first meaning, and what is committed is kept.
use Rattle.std.proofs.Common.{◌≡◌, ℕ, ◌*◌, ◌≤◌, false, None, refl, sym, ◌∙◌, subst, arith, inl, inr}
use Rattle.std.proofs.lemmas.Bool.{false≢true}
use Rattle.std.specs.List.{AllByRecursion}
use Rattle.era_base.specs.Geometry.{need_of}
use Rattle.era_base.specs.CrashModel.{State, Leaves}
use Rattle.era_layout.specs.Root.{RootFields, root_bytes}
use Rattle.era_slots.specs.Slot.{IsBlank}
use Rattle.era_slots.specs.Standing.{IsDurable, Stands}
use Rattle.era_slots.specs.Promise.{Commits, IsSealed, IsStored}
use Rattle.era_meta.specs.Content.{blocks_of_root}
use Rattle.era_meta.specs.Formatting.{LeavesBlankOr, MayBeFirst}
use Rattle.era_meta.specs.Meaning.{Meaning, pages_in, reached, IsImageOf}
use Rattle.era_meta.specs.Keeping.{stored_in, IsKept, Keeps}
use Rattle.era_meta.proofs.Agree.{all_weaker, whole-agree}
use Rattle.era_meta.proofs.Begun.{closed-leave}
use Rattle.era_meta.proofs.Kept.{LiesIn, reached-lies, Stay, meaning-stays, slot-stay, image-of}
use Rattle.era_meta.proofs.LawsBelow.{LeftPages, EitherBody, OpenBodies}

pub blank-leave : EitherBody → (now : State) → Stands 0 0 false now → Leaves IsBlank now
blank-leave either now stands image is = elim (either 0 0 false now stands image is) [
  | inl has ↦ has.blank refl
  | inr has ↦ absurd (false≢true has.0)
]

-- the root's pages stay
first-stay : (next : RootFields) (before now : State) → MayBeFirst next before → Commits 0 0 (root_bytes next) before now → Stay next None before now
first-stay next before now may commits =
    slot-stay 0 (pages_in before.seen) next None before now may.stands.slot may.whole commits.same.bytes commits.pages

pub first-says : (next : RootFields) (before now : State) → MayBeFirst next before → Commits 0 0 (root_bytes next) before now
    → stored_in now next None ≡ stored_in before next None
first-says next before now may commits = meaning-stays next None before now (first-stay next before now may commits)

first-kept : (next : RootFields) (before now : State) → MayBeFirst next before → Commits 0 0 (root_bytes next) before now
    → AllByRecursion (λ block. IsDurable block now) (reached next None) → IsKept next None now
first-kept next before now may commits durable =
    let stay = first-stay next before now may commits in
    record {
      whole = whole-agree (pages_in before.seen) (pages_in now.seen) next None stay.same may.whole;
      room = subst (λ (size : ℕ). 4096 * need_of (blocks_of_root next) ≤ size) (sym stay.size) may.room;
      durable = durable;
    }

sealed-durable : (next : RootFields) (before now : State) → MayBeFirst next before → Commits 0 0 (root_bytes next) before now
    → IsSealed 0 0 (root_bytes next) before now → AllByRecursion (λ block. IsDurable block now) (reached next None)
sealed-durable next before now may commits sealed =
    let room = may.room in
    let size = commits.same.bytes in
    all_weaker (LiesIn next) (λ block. IsDurable block now) (reached next None)
    (λ block lies offset above below.
    let behind = lies.0 in
    let within = lies.1 in
    sealed.durable offset (λ first. omega arith) (omega arith))
    (reached-lies (pages_in before.seen) next None may.whole)

pub first-moment : LeftPages → (next : RootFields) (before now : State) → MayBeFirst next before → Commits 0 0 (root_bytes next) before now
    → LeavesBlankOr (stored_in before next None) now
first-moment left next before now may commits image is = elim commits.step [
  | inl staged ↦ inl ((staged.images image is).blank refl)
  | inr sealed ↦ elim (sealed.images image is) [
    | inl has ↦ inl (has.blank refl)
    | inr stored ↦
        let known = sealed.stands.blank refl in
        inr (subst (λ (meaning : Meaning). IsImageOf meaning image) (first-says next before now may commits)
        (image-of left 0 next None now image may.stands.slot
        (first-kept next before now may commits (sealed-durable next before now may commits sealed)) is stored.active stored.holds
        (λ opened. absurd (known.closed (sym (is.kept 4096 (known.clean 4096 (omega arith) (omega arith))) ∙ opened)))))
  ]
]

-- the commit answered Ok
pub first-keeps : (next : RootFields) (before now : State) → MayBeFirst next before → Commits 0 0 (root_bytes next) before now
    → IsStored 0 0 (root_bytes next) now → Stands 1 1 false now → Keeps 1 1 false next None now
first-keeps next before now may commits stored stands =
    let room = may.room in
    let size = commits.same.bytes in
    record {
      stands = stands;
      formatted = omega arith;
      spelled = stored.holds;
      kept = first-kept next before now may commits
          (all_weaker (LiesIn next) (λ block. IsDurable block now) (reached next None)
          (λ block lies offset above below. let within = lies.1 in stored.clean offset (omega arith))
          (reached-lies (pages_in before.seen) next None may.whole));
      left = λ flag. absurd (false≢true flag);
    }

pub first-leave : LeftPages → EitherBody → OpenBodies → (next : RootFields) (before now : State) → MayBeFirst next before
    → Commits 0 0 (root_bytes next) before now → Keeps 1 1 false next None now → Leaves (IsImageOf (stored_in before next None)) now
first-leave left either bodies next before now may commits keeps image is =
    subst (λ (meaning : Meaning). IsImageOf meaning image) (first-says next before now may commits)
    (closed-leave left either bodies 1 1 next None now keeps image is)
