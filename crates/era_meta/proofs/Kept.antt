-- What is kept of a root: which blocks it reaches, that it stays while they do, and which images a disk that keeps it leaves.
use Rattle.std.proofs.Common.{◌≡◌, ℕ, suc, ◌*◌, ◌<◌, ◌≤◌, ◌⊎◌, Bool, true, false, List, [], ◌∷◌, Option, Some, None, length, refl, sym, ap, ◌∙◌, subst, arith, inl, inr}
use Rattle.std.proofs.lemmas.Bool.{false≢true}
use Rattle.std.specs.List.{AllByRecursion}
use Rattle.era_base.specs.Geometry.{blocks_of, need_of}
use Rattle.era_base.specs.CrashModel.{State, IsCrashImage, Leaves}
use Rattle.era_layout.specs.Root.{RootFields, root_bytes, pages_of, AreInImage}
use Rattle.era_slots.specs.Slot.{other, SlotIsOpen, body_of, page_of, IsActive}
use Rattle.era_slots.specs.Standing.{IsDurable, Stands}
use Rattle.era_slots.specs.Promise.{HasCommitted, HasFailed, KeepsPages}
use Rattle.era_meta.specs.Content.{blocks_of_root}
use Rattle.era_meta.specs.Meaning.{pages_in, reached, IsRootBody, IsWholeRoot, IsImageOf}
use Rattle.era_meta.specs.Keeping.{stored_in, IsKept, IsRetained, Keeps, IsOfLeft}
use Rattle.era_meta.proofs.Agree.{Agree, all_both, all_weaker, all_with, whole-agree, meaning-agree}
use Rattle.era_meta.proofs.LawsBelow.{LeftPages, EitherBody, OpenBodies}

-- a block behind the slots, and below the need of a geometry
abbrev pub LiesIn : RootFields → ℕ → Type 0
LiesIn root block = (2 ≤ block) × (block < need_of (blocks_of_root root))

pub lies-all : (blocks : ℕ) (pages : List ℕ) → AreInImage blocks pages → AllByRecursion (λ block. (2 ≤ block) × (block < need_of blocks)) pages
lies-all blocks [] range = tt
lies-all blocks (page ∷ pages) range =
    let own = range 0 (omega arith) in
    ((omega (arith, own.0), own.1), lies-all blocks pages (λ index lt. range (suc index) (omega arith)))

-- where the blocks lie that a whole root reaches
pub reached-lies : (page : ℕ → List ℕ) (root : RootFields) (held : Option RootFields) → IsWholeRoot page root held
    → AllByRecursion (LiesIn root) (reached root held)
reached-lies page root None w = lies-all (blocks_of_root root) (pages_of root) w.valid.range
reached-lies page root (Some held) w =
    let s = w.snapshot in
    let same : blocks_of_root held ≡ blocks_of_root root
    = ap (λ (n : ℕ). blocks_of n held.block_sectors) s.length_same ∙ ap (λ (n : ℕ). blocks_of root.sectors n) s.size_same in
    all_both (LiesIn root) (pages_of root) (2 ∷ pages_of held) (lies-all (blocks_of_root root) (pages_of root) w.valid.range) (
      (omega arith, omega arith),
      subst (λ (blocks : ℕ). AllByRecursion (λ block. (2 ≤ block) × (block < need_of blocks)) (pages_of held)) same
          (lies-all (blocks_of_root held) (pages_of held) s.valid.range),
    )

-- each block that is reached reads as it did and is still on the disk
pub record Stay (root : RootFields) (held : Option RootFields) (before now : State) : Type 0 where
  pub size : length now.seen ≡ length before.seen
  pub same : Agree (pages_in before.seen) (pages_in now.seen) (reached root held)
  pub durable : AllByRecursion (λ block. IsDurable block before → IsDurable block now) (reached root held)

pub kept-stays : (root : RootFields) (held : Option RootFields) (before now : State) → Stay root held before now
    → IsKept root held before → IsKept root held now
kept-stays root held before now stay kept = record {
  whole = whole-agree (pages_in before.seen) (pages_in now.seen) root held stay.same kept.whole;
  room = subst (λ (size : ℕ). 4096 * need_of (blocks_of_root root) ≤ size) (sym stay.size) kept.room;
  durable = all_with (λ block. IsDurable block before → IsDurable block now) (λ block. IsDurable block before) (λ block. IsDurable block now)
      (reached root held) (λ block more was. more was) stay.durable kept.durable;
}

pub meaning-stays : (root : RootFields) (held : Option RootFields) (before now : State) → Stay root held before now
    → stored_in now root held ≡ stored_in before root held
meaning-stays root held before now stay = sym (meaning-agree (pages_in before.seen) (pages_in now.seen) root held stay.same)

-- through a call that leaves out one of the slots alone
pub slot-stay : (target : ℕ) (page : ℕ → List ℕ) (root : RootFields) (held : Option RootFields) (before now : State) → target < 2
    → IsWholeRoot page root held → length now.seen ≡ length before.seen → KeepsPages target before now → Stay root held before now
slot-stay target page root held before now slot whole size pages = record {
  size = size;
  same = all_weaker (LiesIn root) (λ block. page_of block before.seen ≡ page_of block now.seen) (reached root held)
      (λ block lies. sym (pages.seen block lies.0 (λ same. omega (arith, lies.0, same, slot)))) (reached-lies page root held whole);
  durable = all_weaker (LiesIn root) (λ block. IsDurable block before → IsDurable block now) (reached root held)
      (λ block lies. pages.durable block lies.0 (λ same. omega (arith, lies.0, same, slot))) (reached-lies page root held whole);
}

-- an image whose active slot has the bytes of a kept root
pub image-of : LeftPages → (slot : ℕ) (root : RootFields) (held : Option RootFields) (now : State) (image : List ℕ) → slot < 2
    → IsKept root held now → IsCrashImage now image → IsActive slot image → body_of slot image ≡ root_bytes root
    → (SlotIsOpen (other slot) image → IsRootBody (body_of (other slot) image)) → IsImageOf (stored_in now root held) image
image-of left slot root held now image two kept is active spelled beside =
    let same : Agree (pages_in now.seen) (pages_in image) (reached root held)
    = all_weaker (λ block. IsDurable block now) (λ block. page_of block now.seen ≡ page_of block image) (reached root held)
    (λ block durable. sym (left block now durable image is)) kept.durable in
    record {
      slot = slot;
      two = two;
      active = active;
      root = root;
      held = held;
      spelled = spelled;
      whole = whole-agree (pages_in now.seen) (pages_in image) root held same kept.whole;
      room = subst (λ (size : ℕ). 4096 * need_of (blocks_of_root root) ≤ size) (sym is.size) kept.room;
      beside = beside;
      says = meaning-agree (pages_in now.seen) (pages_in image) root held same;
    }

other-other : (target : ℕ) → target < 2 → other (other target) ≡ target
other-other target lt = omega arith

-- the body under the target's gate, where an image has it open
beside-target : OpenBodies → (target number : ℕ) (may_be_open : Bool) (now : State) (image : List ℕ) → Stands target number may_be_open now
    → (may_be_open ≡ true → IsRetained target number now) → IsCrashImage now image → SlotIsOpen target image → IsRootBody (body_of target image)
beside-target bodies target number true now image stands left is opened =
    subst IsRootBody (sym (bodies target number target true now stands stands.slot image is opened).holds) (left refl).spelled
beside-target bodies target number false now image stands left is opened =
    let known = stands.closed refl in
    absurd (known.closed (sym (is.kept (4096 * target) (known.clean (4096 * target) (omega arith) (omega arith))) ∙ opened))

pub committed-image : LeftPages → OpenBodies → (target number : ℕ) (may_be_open : Bool) (root : RootFields) (held : Option RootFields) (now : State)
    (image : List ℕ) → Keeps target number may_be_open root held now → IsCrashImage now image → HasCommitted target number now image
    → IsImageOf (stored_in now root held) image
committed-image left bodies target number may_be_open root held now image keeps is has =
    let stored = has.committed keeps.formatted in
    let slot = keeps.stands.slot in
    image-of left (other target) root held now image (omega arith) keeps.kept is stored.active (stored.holds ∙ keeps.spelled)
    (subst (λ (beside : ℕ). SlotIsOpen beside image → IsRootBody (body_of beside image)) (sym (other-other target slot))
    (beside-target bodies target number may_be_open now image keeps.stands keeps.left is))

failed-image : LeftPages → OpenBodies → (target number : ℕ) (root : RootFields) (held : Option RootFields) (now : State)
    (image : List ℕ) → Keeps target number true root held now → IsCrashImage now image → HasFailed target number now image
    → IsOfLeft target number true now image
failed-image left bodies target number root held now image keeps is has =
    let failed = (keeps.left refl).failed has.failed in
    let slot = keeps.stands.slot in (
      refl,
      (
        stored_in now failed.root failed.held,
        record {
          root = failed.root;
          held = failed.held;
          numbered = has.failed;
          spelled = failed.spelled;
          whole = failed.kept.whole;
          says = refl;
        },
        image-of left target failed.root failed.held now image slot failed.kept is has.stored.active (has.stored.holds ∙ failed.spelled)
            (λ opened. (root, keeps.kept.whole.valid, (bodies target number (other target) true now keeps.stands (omega arith) image is opened).holds ∙ keeps.spelled)),
      ),
    )

-- what a disk that keeps a root leaves: what that says, or what was left
pub keeps-images : LeftPages → EitherBody → OpenBodies → (target number : ℕ) (may_be_open : Bool) (root : RootFields) (held : Option RootFields) (now : State)
    → Keeps target number may_be_open root held now
    → Leaves (λ image. IsImageOf (stored_in now root held) image ⊎ IsOfLeft target number may_be_open now image) now
keeps-images left either bodies target number true root held now keeps image is = elim (either target number true now keeps.stands image is) [
  | inl has ↦ inl (committed-image left bodies target number true root held now image keeps is has)
  | inr has ↦ inr (failed-image left bodies target number root held now image keeps is has.1)
]
keeps-images left either bodies target number false root held now keeps image is = elim (either target number false now keeps.stands image is) [
  | inl has ↦ inl (committed-image left bodies target number false root held now image keeps is has)
  | inr has ↦ absurd (false≢true has.0)
]
