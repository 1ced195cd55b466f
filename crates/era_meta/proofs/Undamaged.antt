-- A disk stands for a meaning exactly where it is undamaged.
use Rattle.std.proofs.Common.{◌≡◌, ◌≢◌, ℕ, zero, suc, ◌*◌, ◌^◌, ◌<◌, ◌≤◌, Bool, true, false, List, [], ◌∷◌, length, Option, Some, None, refl, sym, ap, ◌∙◌, subst, arith, inl, inr}
use Rattle.std.specs.Prelude.{slice_index, if◌then◌else◌}
use Rattle.std.proofs.lemmas.Bool.{cases_eq, cases_lt}
use Rattle.era_base.specs.Geometry.{need_of}
use Rattle.era_layout.specs.Damage.{fields_at}
use Rattle.era_layout.specs.Root.{RootFields, root_bytes, IsValidRoot}
use Rattle.era_slots.specs.Slot.{other, SlotIsOpen, commit_number, body_of, IsCommitNumber, IsBlank, HasBadNumber, IsActive}
use Rattle.era_meta.specs.Content.{blocks_of_root}
use Rattle.era_meta.specs.Damage.{SlotRoot, HeldRoot, HeldSize, Passes, PassAll, HasSize, held_in, held_tests, page_tests, root_tests, root_in, damage_tests}
use Rattle.era_meta.specs.Meaning.{Meaning, pages_in, IsHeld, IsRootBody, IsImageOf, meaning_of}
use Rattle.era_meta.proofs.Agree.{all_front, all_back, all_both}
use Rattle.era_meta.proofs.PassedTests.{passed-whole, whole-passes}
use Rattle.era_meta.proofs.Refusals.{hold-pass, number_tests, numbers-hold, bad-not-blank}
use Rattle.era_meta.proofs.Tried.{root-is}

abbrev pub ReadBack : Type 0
ReadBack = (root : RootFields) → IsValidRoot root → fields_at (root_bytes root) ≡ root

good-number : (slot : ℕ) (seen : List ℕ) → ¬ HasBadNumber slot seen → SlotIsOpen slot seen → IsCommitNumber (commit_number slot seen)
good-number slot seen fine opened = (
  elim (cases_lt 0 (commit_number slot seen)) [
    | inl some ↦ some
    | inr none ↦ absurd (fine (opened, inl (omega arith)))
  ],
  elim (cases_lt (commit_number slot seen) (2 ^ 63)) [
    | inl below ↦ below
    | inr great ↦ absurd (fine (opened, inr great))
  ],
)

-- slots whose numbers are in order have an active one
pub active-of : (seen : List ℕ) → ¬ IsBlank seen → PassAll seen number_tests → (slot : ℕ) × (slot < 2) × IsActive slot seen
active-of seen some pass = elim (cases_eq (slice_index seen 0) 1) [
  | inr closed ↦ elim (cases_eq (slice_index seen 4096) 1) [
    | inr shut ↦ absurd (some (closed, shut))
    | inl opened ↦ (
      1,
      (omega arith),
      record {
        opened = opened;
        numbered = good-number 1 seen pass.1.0 opened;
        newest = λ first. absurd (closed first);
      },
    )
  ]
  | inl first ↦ elim (cases_eq (slice_index seen 4096) 1) [
    | inr shut ↦ (
      0,
      (omega arith),
      record {
        opened = first;
        numbered = good-number 0 seen pass.0 first;
        newest = λ second. absurd (shut second);
      },
    )
    | inl second ↦ elim (cases_lt (commit_number 0 seen) (commit_number 1 seen)) [
      | inl less ↦ (
        1,
        (omega arith),
        record {
          opened = second;
          numbered = good-number 1 seen pass.1.0 second;
          newest = λ opened. ((good-number 0 seen pass.0 first).0, less);
        },
      )
      | inr more ↦ (
        0,
        (omega arith),
        record {
          opened = first;
          numbered = good-number 0 seen pass.0 first;
          newest = λ opened. (
            (good-number 1 seen pass.1.0 second).0,
            (let differ : commit_number 0 seen ≢ commit_number 1 seen = λ same. pass.1.1.0 (record { first = first; second = second; same = same }) in omega arith),
          );
        },
      )
    ]
  ]
]

-- the held root of a root, by the tests
pub held-of : ReadBack → (seen : List ℕ) (root : RootFields) (flag : Bool) → root.held ≡ flag
    → PassAll seen (if flag then HeldRoot ∷ HeldSize root.sectors root.block_sectors ∷ page_tests (held_in seen) else [])
    → (held : Option RootFields) × IsHeld (pages_in seen) root held
held-of back seen root false is pass = (None, is)
held-of back seen root true is pass =
    let own = pass.0 in
    let held = own.0 in
    let says : held_in seen ≡ held = ap fields_at own.3 ∙ back held own.1 in
    let size : HasSize held root.sectors root.block_sectors = subst (λ (r : RootFields). HasSize r root.sectors root.block_sectors) says pass.1.0 in (
      Some held,
      record {
        flag = is;
        valid = own.1;
        none = own.2;
        spelled = own.3;
        length_same = size.0;
        size_same = size.1;
        whole = passed-whole seen held (subst (λ (r : RootFields). PassAll seen (page_tests r)) says pass.1.1);
      },
    )

held-tested : ReadBack → (seen : List ℕ) (root : RootFields) (held : Option RootFields) (flag : Bool) → root.held ≡ flag → IsHeld (pages_in seen) root held
    → PassAll seen (if flag then HeldRoot ∷ HeldSize root.sectors root.block_sectors ∷ page_tests (held_in seen) else [])
held-tested back seen root held false is holds = tt
held-tested back seen root None true is holds = cc (holds, is)
held-tested back seen root (Some held) true is holds =
    let says : held_in seen ≡ held = ap fields_at holds.spelled ∙ back held holds.valid in (
      (held, holds.valid, holds.none, holds.spelled),
      (
        subst (λ (r : RootFields). HasSize r root.sectors root.block_sectors) (sym says) (holds.length_same, holds.size_same),
        subst (λ (r : RootFields). PassAll seen (page_tests r)) (sym says) (whole-passes seen held holds.whole),
      ),
    )

pub root-at : (seen : List ℕ) (slot : ℕ) → slot < 2 → PassAll seen (SlotRoot 0 ∷ SlotRoot 1 ∷ []) → SlotIsOpen slot seen → IsRootBody (body_of slot seen)
root-at seen zero two pass opened = pass.0 opened
root-at seen (suc zero) two pass opened = pass.1.0 opened
root-at seen (suc (suc slot)) two pass opened = absurd (omega arith)

pub other-two : (slot : ℕ) → other slot < 2
other-two slot = omega arith

pub undamaged-stands : ReadBack → (seen : List ℕ) → ¬ IsBlank seen → PassAll seen (damage_tests seen)
    → 4096 * need_of (blocks_of_root (root_in seen)) ≤ length seen → (meaning : Meaning) × IsImageOf meaning seen
undamaged-stands back seen some pass room =
    let numbers = all_front (Passes seen) number_tests (SlotRoot 0 ∷ SlotRoot 1 ∷ root_tests (root_in seen) (held_in seen)) pass in
    let behind = all_back (Passes seen) number_tests (SlotRoot 0 ∷ SlotRoot 1 ∷ root_tests (root_in seen) (held_in seen)) pass in
    let roots = all_front (Passes seen) (SlotRoot 0 ∷ SlotRoot 1 ∷ []) (root_tests (root_in seen) (held_in seen)) behind in
    let reached = all_back (Passes seen) (SlotRoot 0 ∷ SlotRoot 1 ∷ []) (root_tests (root_in seen) (held_in seen)) behind in
    let found = active-of seen some numbers in
    let slot = found.0 in
    let two = found.1 in
    let active = found.2 in
    let body = root-at seen slot two roots active.opened in
    let root = body.0 in
    let is : root_in seen ≡ root = root-is back seen (body_of slot seen) slot root two active refl body.1 (sym body.2) in
    let tests : PassAll seen (root_tests root (held_in seen)) = subst (λ (r : RootFields). PassAll seen (root_tests r (held_in seen))) is reached in
    let held = held-of back seen root root.held refl (all_back (Passes seen) (page_tests root) (held_tests root (held_in seen)) tests) in (
      meaning_of (pages_in seen) root held.0,
      record {
        slot = slot;
        two = two;
        active = active;
        root = root;
        held = held.0;
        spelled = body.2;
        whole = record {
          valid = body.1;
          whole = passed-whole seen root (all_front (Passes seen) (page_tests root) (held_tests root (held_in seen)) tests);
          snapshot = held.1;
        };
        room = subst (λ (r : RootFields). 4096 * need_of (blocks_of_root r) ≤ length seen) is room;
        beside = λ opened. root-at seen (other slot) (other-two slot) roots opened;
        says = refl;
      },
    )

-- a disk that stands for a meaning is undamaged
roots-pass : (seen : List ℕ) (slot : ℕ) → slot < 2 → IsRootBody (body_of slot seen) → (SlotIsOpen (other slot) seen → IsRootBody (body_of (other slot) seen))
    → PassAll seen (SlotRoot 0 ∷ SlotRoot 1 ∷ [])
roots-pass seen zero two own beside = ((λ opened. own), (beside, tt))
roots-pass seen (suc zero) two own beside = (beside, ((λ opened. own), tt))
roots-pass seen (suc (suc slot)) two own beside = absurd (omega arith)

pub stands-undamaged : ReadBack → (seen : List ℕ) (meaning : Meaning) → IsImageOf meaning seen
    → PassAll seen (damage_tests seen) × (4096 * need_of (blocks_of_root (root_in seen)) ≤ length seen) × (¬ IsBlank seen)
stands-undamaged back seen meaning image =
    let root = image.root in
    let is : root_in seen ≡ root = root-is back seen (body_of image.slot seen) image.slot root image.two image.active refl image.whole.valid (sym image.spelled) in
    let numbers = hold-pass 0 seen number_tests (numbers-hold 0 seen image.slot image.two image.active) in
    let reached : PassAll seen (root_tests root (held_in seen))
    = all_both (Passes seen) (page_tests root) (held_tests root (held_in seen)) (whole-passes seen root image.whole.whole)
    (held-tested back seen root image.held root.held refl image.whole.snapshot) in
    let roots = roots-pass seen image.slot image.two (root, image.whole.valid, image.spelled) image.beside in (
      all_both (Passes seen) number_tests (SlotRoot 0 ∷ SlotRoot 1 ∷ root_tests (root_in seen) (held_in seen)) numbers
          (all_both (Passes seen) (SlotRoot 0 ∷ SlotRoot 1 ∷ []) (root_tests (root_in seen) (held_in seen)) roots
          (subst (λ (r : RootFields). PassAll seen (root_tests r (held_in seen))) (sym is) reached)),
      subst (λ (r : RootFields). 4096 * need_of (blocks_of_root r) ≤ length seen) (sym is) image.room,
      bad-not-blank seen image.slot image.two image.active.opened,
    )
