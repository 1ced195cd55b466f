-- The moments of a commit and its end: the old meaning or the new one, and after Ok the new one alone.
use Rattle.std.proofs.Common.{◌≡◌, ℕ, ◌+◌, ◌*◌, ◌<◌, ◌≤◌, Bool, true, false, List, Option, refl, sym, ◌∙◌, subst, arith, inl, inr}
use Rattle.std.proofs.lemmas.Bool.{false≢true}
use Rattle.std.specs.List.{AllByRecursion}
use Rattle.era_base.specs.Geometry.{need_of}
use Rattle.era_base.specs.CrashModel.{State, Leaves, IsClean}
use Rattle.era_layout.specs.Root.{RootFields, root_bytes}
use Rattle.era_slots.specs.Slot.{other, body_of}
use Rattle.era_slots.specs.Standing.{IsDurable, Stands}
use Rattle.era_slots.specs.Promise.{Commits, IsSealed, IsStored, IsFailed}
use Rattle.era_meta.specs.Content.{blocks_of_root}
use Rattle.era_meta.specs.Meaning.{Meaning, pages_in, reached, IsImageOf}
use Rattle.era_meta.specs.Keeping.{stored_in, IsKept, Keeps, IsLeft, LeavesEither}
use Rattle.era_meta.specs.Putting.{MayCommit}
use Rattle.era_meta.proofs.Agree.{all_weaker, whole-agree}
use Rattle.era_meta.proofs.LawsBelow.{LeftPages, EitherBody, OpenBodies, OneRoot}
use Rattle.era_meta.proofs.Kept.{LiesIn, reached-lies, Stay, kept-stays, meaning-stays, slot-stay, keeps-images}
use Rattle.era_meta.proofs.OneMeaning.{same-meaning}
use Rattle.era_meta.proofs.Begun.{closed-leave}

-- what stays of the committed root, and of the next one
root-stay : (target number : ℕ) (root next : RootFields) (held held_next : Option RootFields) (before now : State)
    → MayCommit target number root next held held_next before → Commits target number (root_bytes next) before now → Stay root held before now
root-stay target number root next held held_next before now may commits =
    slot-stay target (pages_in before.seen) root held before now may.keeps.stands.slot may.keeps.kept.whole commits.same.bytes commits.pages

next-stay : (target number : ℕ) (root next : RootFields) (held held_next : Option RootFields) (before now : State)
    → MayCommit target number root next held held_next before → Commits target number (root_bytes next) before now → Stay next held_next before now
next-stay target number root next held held_next before now may commits =
    slot-stay target (pages_in before.seen) next held_next before now may.keeps.stands.slot may.whole commits.same.bytes commits.pages

-- the next root is on the disk
next-kept : (target number : ℕ) (root next : RootFields) (held held_next : Option RootFields) (before now : State)
    → MayCommit target number root next held held_next before → Commits target number (root_bytes next) before now
    → AllByRecursion (λ block. IsDurable block now) (reached next held_next) → IsKept next held_next now
next-kept target number root next held held_next before now may commits durable =
    let stay = next-stay target number root next held held_next before now may commits in
    record {
      whole = whole-agree (pages_in before.seen) (pages_in now.seen) next held_next stay.same may.whole;
      room = subst (λ (size : ℕ). 4096 * need_of (blocks_of_root next) ≤ size) (sym stay.size) may.room;
      durable = durable;
    }

-- the gate isn't begun to be opened
pub staged-keeps : (target number : ℕ) (root next : RootFields) (held held_next : Option RootFields) (before now : State)
    → MayCommit target number root next held held_next before → Commits target number (root_bytes next) before now
    → Stands target number false now → Keeps target number false root held now
staged-keeps target number root next held held_next before now may commits stands = record {
  stands = stands;
  formatted = may.keeps.formatted;
  spelled = commits.kept.holds ∙ may.keeps.spelled;
  kept = kept-stays root held before now (root-stay target number root next held held_next before now may commits) may.keeps.kept;
  left = λ flag. absurd (false≢true flag);
}

sealed-durable : (target number : ℕ) (root next : RootFields) (held held_next : Option RootFields) (before now : State)
    → MayCommit target number root next held held_next before → Commits target number (root_bytes next) before now
    → IsSealed target number (root_bytes next) before now → AllByRecursion (λ block. IsDurable block now) (reached next held_next)
sealed-durable target number root next held held_next before now may commits sealed =
    let slot = may.keeps.stands.slot in
    let room = may.room in
    let size = commits.same.bytes in
    all_weaker (LiesIn next) (λ block. IsDurable block now) (reached next held_next)
    (λ block lies offset above below.
    let behind = lies.0 in
    let within = lies.1 in
    sealed.durable offset (λ first. omega arith) (omega arith))
    (reached-lies (pages_in before.seen) next held_next may.whole)

-- the gate may be open over the next root
pub sealed-keeps : (target number : ℕ) (root next : RootFields) (held held_next : Option RootFields) (before now : State)
    → MayCommit target number root next held held_next before → Commits target number (root_bytes next) before now
    → IsSealed target number (root_bytes next) before now → Keeps target number true root held now
sealed-keeps target number root next held held_next before now may commits sealed = record {
  stands = sealed.stands;
  formatted = may.keeps.formatted;
  spelled = commits.kept.holds ∙ may.keeps.spelled;
  kept = kept-stays root held before now (root-stay target number root next held held_next before now may commits) may.keeps.kept;
  left = λ flag. record {
    spelled = (next, may.whole.valid, sealed.holds);
    failed = λ numbered. record {
      root = next;
      held = held_next;
      spelled = sealed.holds;
      kept = next-kept target number root next held held_next before now may commits
          (sealed-durable target number root next held held_next before now may commits sealed);
    };
  };
}

-- then the next meaning is what is left
pub sealed-left : OneRoot → (target number : ℕ) (root next : RootFields) (held held_next : Option RootFields) (before now : State) (left : Meaning)
    → MayCommit target number root next held held_next before → Commits target number (root_bytes next) before now
    → IsSealed target number (root_bytes next) before now → IsLeft target number left now → left ≡ stored_in before next held_next
sealed-left roots target number root next held held_next before now left may commits sealed is =
    let stay = next-stay target number root next held held_next before now may commits in
    is.says ∙ (same-meaning roots (pages_in now.seen) is.root next is.held held_next is.whole
    (whole-agree (pages_in before.seen) (pages_in now.seen) next held_next stay.same may.whole) (sym is.spelled ∙ sealed.holds)
    ∙ meaning-stays next held_next before now stay)

-- the images of each moment
pub commits-leave : LeftPages → EitherBody → OpenBodies → OneRoot → (target number : ℕ) (root next : RootFields) (held held_next : Option RootFields)
    (before now : State) → MayCommit target number root next held held_next before → Commits target number (root_bytes next) before now
    → LeavesEither (stored_in before root held) (stored_in before next held_next) now
commits-leave left either bodies roots target number root next held held_next before now may commits image is =
    let says = meaning-stays root held before now (root-stay target number root next held held_next before now may commits) in
    elim commits.step [
      | inl staged ↦ inl (subst (λ (meaning : Meaning). IsImageOf meaning image) says
          (closed-leave left either bodies target number root held now
          (staged-keeps target number root next held held_next before now may commits staged.stands) image is))
      | inr sealed ↦ elim (keeps-images left either bodies target number true root held now
          (sealed-keeps target number root next held held_next before now may commits sealed) image is) [
            | inl old ↦ inl (subst (λ (meaning : Meaning). IsImageOf meaning image) says old)
            | inr was ↦ inr (subst (λ (meaning : Meaning). IsImageOf meaning image)
                (sealed-left roots target number root next held held_next before now was.1.0 may commits sealed was.1.1) was.1.2)
          ]
    ]

pub commits-says : (target number : ℕ) (root next : RootFields) (held held_next : Option RootFields) (before now : State)
    → MayCommit target number root next held held_next before → Commits target number (root_bytes next) before now
    → stored_in now root held ≡ stored_in before root held
commits-says target number root next held held_next before now may commits =
    meaning-stays root held before now (root-stay target number root next held held_next before now may commits)

pub next-says : (target number : ℕ) (root next : RootFields) (held held_next : Option RootFields) (before now : State)
    → MayCommit target number root next held held_next before → Commits target number (root_bytes next) before now
    → stored_in now next held_next ≡ stored_in before next held_next
next-says target number root next held held_next before now may commits =
    meaning-stays next held_next before now (next-stay target number root next held held_next before now may commits)

clean-durable : (target number : ℕ) (root next : RootFields) (held held_next : Option RootFields) (before now : State)
    → MayCommit target number root next held held_next before → Commits target number (root_bytes next) before now
    → IsClean now → AllByRecursion (λ block. IsDurable block now) (reached next held_next)
clean-durable target number root next held held_next before now may commits clean =
    let room = may.room in
    let size = commits.same.bytes in
    all_weaker (LiesIn next) (λ block. IsDurable block now) (reached next held_next)
    (λ block lies offset above below. let within = lies.1 in clean offset (omega arith))
    (reached-lies (pages_in before.seen) next held_next may.whole)

-- a commit that answered Ok
pub stored-keeps : (target number : ℕ) (root next : RootFields) (held held_next : Option RootFields) (before now : State)
    → MayCommit target number root next held held_next before → Commits target number (root_bytes next) before now
    → IsStored target number (root_bytes next) now → Stands (other target) (number + 1) true now
    → Keeps (other target) (number + 1) true next held_next now
stored-keeps target number root next held held_next before now may commits stored stands =
    let slot = may.keeps.stands.slot in
    let back : other (other target) ≡ target = omega arith in
    record {
      stands = stands;
      formatted = omega arith;
      spelled = subst (λ (k : ℕ). body_of k now.seen ≡ root_bytes next) (sym back) stored.holds;
      kept = next-kept target number root next held held_next before now may commits
          (clean-durable target number root next held held_next before now may commits stored.clean);
      left = λ flag. record {
        spelled = (root, may.keeps.kept.whole.valid, commits.kept.holds ∙ may.keeps.spelled);
        failed = λ numbered. let older = stored.older may.keeps.formatted in absurd (omega (arith, numbered, older));
      };
    }

pub stored-leave : LeftPages → EitherBody → OpenBodies → (target number : ℕ) (root next : RootFields) (held held_next : Option RootFields)
    (before now : State) → MayCommit target number root next held held_next before → Commits target number (root_bytes next) before now
    → IsStored target number (root_bytes next) now → Stands (other target) (number + 1) true now → Leaves (IsImageOf (stored_in now next held_next)) now
stored-leave left either bodies target number root next held held_next before now may commits stored stands image is =
    elim (keeps-images left either bodies (other target) (number + 1) true next held_next now
    (stored-keeps target number root next held held_next before now may commits stored stands) image is) [
      | inl new ↦ new
      | inr was ↦
          let older = stored.older may.keeps.formatted in
          let numbered = was.1.1.numbered in
          absurd (omega (arith, numbered, older))
    ]

-- and no failed commit left another meaning
pub stored-alone : (target number : ℕ) (body : List ℕ) (now : State) (left : Meaning) → 0 < number → IsStored target number body now → ¬ IsLeft (other target) (number + 1) left now
stored-alone target number body now left some stored was =
    let older = stored.older some in
    let numbered = was.numbered in
    omega (arith, numbered, older)

-- a commit that failed
pub failed-keeps : (target number : ℕ) (may_be_open : Bool) (root next : RootFields) (held held_next : Option RootFields) (before now : State)
    → MayCommit target number root next held held_next before → Commits target number (root_bytes next) before now
    → Stands target number may_be_open now → IsFailed target number may_be_open (root_bytes next) before now
    → Keeps target number may_be_open root held now
failed-keeps target number true root next held held_next before now may commits stands failed =
    sealed-keeps target number root next held held_next before now may commits (failed.sealed refl)
failed-keeps target number false root next held held_next before now may commits stands failed =
    staged-keeps target number root next held held_next before now may commits stands

pub failed-left : OneRoot → (target number : ℕ) (may_be_open : Bool) (root next : RootFields) (held held_next : Option RootFields) (before now : State)
    → MayCommit target number root next held held_next before → Commits target number (root_bytes next) before now
    → IsFailed target number may_be_open (root_bytes next) before now → may_be_open ≡ true
    → (left : Meaning) → IsLeft target number left now → left ≡ stored_in before next held_next
failed-left roots target number may_be_open root next held held_next before now may commits failed flag left is =
    sealed-left roots target number root next held held_next before now left may commits (failed.sealed flag) is
