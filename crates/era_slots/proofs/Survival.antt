-- Pages through the moments of the calls, and that a disk has one body.
use Rattle.std.proofs.Common.{◌≡◌, ◌≢◌, ℕ, zero, suc, ◌+◌, ◌*◌, ◌<◌, ◌≤◌, Bool, true, false, List, length, refl, sym, ap, ◌∙◌, subst, arith, inl, inr}
use Rattle.std.proofs.lemmas.Bool.{cases_lt, cases_eq}
use Rattle.std.proofs.lemmas.List.{get_or_past}
use Rattle.era_base.specs.CrashModel.{State, IsClean, IsCrashImage}
use Rattle.era_slots.specs.Slot.{other, SlotIsOpen, commit_number, page_of, IsActive, IsBlank, Stores}
use Rattle.era_slots.specs.Standing.{IsDurable, Stands}
use Rattle.era_slots.specs.Promise.{HasCommitted, IsSameBody, KeepsPages, IsSealed, Commits}
use Rattle.era_slots.specs.Wiping.{IsOutsideOpenGates, SameButOpenGates, Wipes}
use Rattle.era_slots.proofs.Changes.{AgreeIn, agree-image, part-agree}
use Rattle.era_slots.proofs.Bytes.{number-agree, body-agree}
use Rattle.era_slots.proofs.Images.{image-closed, image-body, committed-body}

pub page-left : (block : ℕ) (state : State) (image : List ℕ) → IsDurable block state → IsCrashImage state image
    → page_of block image ≡ page_of block state.seen
page-left block state image clean is =
    part-agree (4096 * block) 4096 (4096 * block) (4096 * block + 4096) image state.seen (omega arith) (omega arith)
    (agree-image (4096 * block) (4096 * block + 4096) state image clean is)

pub page-stays : (but block : ℕ) (before now : State) (image : List ℕ) → KeepsPages but before now → 2 ≤ block → block ≢ but → IsDurable block before
    → IsCrashImage now image → page_of block image ≡ page_of block before.seen
page-stays but block before now image keeps behind differs clean is =
    page-left block now image (keeps.durable block behind differs clean) is ∙ keeps.seen block behind differs

pub page-sealed : (target number block : ℕ) (body : List ℕ) (before now : State) → IsSealed target number body before now
    → 2 ≤ block → 4096 * block + 4096 ≤ length now.seen → IsDurable block now
page-sealed target number block body before now sealed behind fits =
    let slot = sealed.stands.slot in
    λ offset above below. sealed.durable offset (λ first. omega arith) (omega arith)

pub two-active : (slot : ℕ) (bytes : List ℕ) → slot < 2 → IsActive slot bytes → IsActive (other slot) bytes → ⊥
two-active slot bytes lt one two =
    let newest = one.newest two.opened in
    let again = two.newest (subst (λ k. SlotIsOpen k bytes) (let e : slot ≡ other (other slot) = omega arith in e) one.opened) in
    let back : commit_number (other (other slot)) bytes ≡ commit_number slot bytes
    = ap (λ (k : ℕ). commit_number k bytes) (let e : other (other slot) ≡ slot = omega arith in e) in
    omega (arith, newest.1, again.1, back)

blank-active : (slot : ℕ) (bytes : List ℕ) → slot < 2 → IsActive slot bytes → IsBlank bytes → ⊥
blank-active zero bytes lt active blank = blank.0 active.opened
blank-active (suc zero) bytes lt active blank = blank.1 active.opened
blank-active (suc (suc n)) bytes lt active blank = omega arith

-- an image doesn't have both bodies
not-both : (target number : ℕ) (body image : List ℕ) (before : State) → target < 2 → HasCommitted target number before image
    → Stores target (number + 1) body image → ⊥
not-both target number body image before slot has stored = elim (cases_lt 0 number) [
  | inl some ↦ two-active target image slot stored.active (has.committed some).active
  | inr none ↦ blank-active target image slot stored.active (has.blank (omega arith))
]

pub new-pages : (target number block : ℕ) (body image : List ℕ) (before now : State) → Commits target number body before now
    → IsCrashImage now image → Stores target (number + 1) body image → 2 ≤ block → 4096 * block + 4096 ≤ length before.seen
    → page_of block image ≡ page_of block before.seen
new-pages target number block body image before now commits is stored behind fits = elim commits.step [
  | inl staged ↦ absurd (not-both target number body image before staged.stands.slot (staged.images image is) stored)
  | inr sealed ↦
      let slot = sealed.stands.slot in
      page-left block now image (page-sealed target number block body before now sealed behind (omega (arith, commits.same.bytes))) is
      ∙ commits.pages.seen block behind (λ same. omega (arith, same))
]

pub active-same : (slot beside : ℕ) (bytes : List ℕ) → slot < 2 → beside < 2 → IsActive slot bytes → IsActive beside bytes → slot ≡ beside
active-same slot beside bytes lt lt' one two = elim (cases_eq slot beside) [
  | inl same ↦ same
  | inr differs ↦ absurd (two-active slot bytes lt one (subst (λ k. IsActive k bytes) (let e : beside ≡ other slot = omega (arith, differs) in e) two))
]

pub active-blank : (slot : ℕ) (bytes : List ℕ) → slot < 2 → IsActive slot bytes → ¬ IsBlank bytes
active-blank slot bytes lt active blank = blank-active slot bytes lt active blank

-- what a read gives of a slot is in an image that agrees on it
same-body : (slot : ℕ) (seen image : List ℕ) → AgreeIn (4096 * slot + 512) (4096 * slot + 4096) image seen → IsSameBody slot seen image
same-body slot seen image agrees = record { numbered = number-agree slot image seen agrees; holds = body-agree slot image seen agrees }

target-left : (target number : ℕ) (may_be_open : Bool) (now : State) (image : List ℕ) → Stands target number may_be_open now → IsCrashImage now image
    → SlotIsOpen target image → IsSameBody target now.seen image
target-left target number false now image stands is opened = absurd (image-closed target now image (stands.closed refl) is opened)
target-left target number true now image stands is opened = same-body target now.seen image (image-body target now image (stands.left refl).clean is)

committed-left : (target number : ℕ) (may_be_open : Bool) (now : State) (image : List ℕ) → Stands target number may_be_open now → IsCrashImage now image
    → SlotIsOpen (other target) image → IsSameBody (other target) now.seen image
committed-left target number may_be_open now image stands is opened = elim (cases_lt 0 number) [
  | inl some ↦ same-body (other target) now.seen image
      (image-body (other target) now image (committed-body (other target) number now (stands.committed some)) is)
  | inr none ↦ absurd (image-closed (other target) now image (stands.blank (omega arith)) is opened)
]

pub open-left : (target number slot : ℕ) (may_be_open : Bool) (now : State) (image : List ℕ) → Stands target number may_be_open now → slot < 2
    → IsCrashImage now image → SlotIsOpen slot image → IsSameBody slot now.seen image
open-left target number slot may_be_open now image stands lt is opened =
    let two = stands.slot in
    elim (cases_eq slot target) [
      | inl same ↦ subst (λ k. IsSameBody k now.seen image) (sym same)
          (target-left target number may_be_open now image stands is (subst (λ k. SlotIsOpen k image) same opened))
      | inr differs ↦
          let beside : slot ≡ other target = omega (arith, differs) in
          subst (λ k. IsSameBody k now.seen image) (sym beside)
          (committed-left target number may_be_open now image stands is (subst (λ k. SlotIsOpen k image) beside opened))
    ]

-- a wiping from a clean disk
agree-wiped : (from to : ℕ) (before now : State) (image : List ℕ) → IsClean before → SameButOpenGates before now
    → ((offset : ℕ) → from ≤ offset → offset < to → IsOutsideOpenGates before.seen offset) → IsCrashImage now image → AgreeIn from to image before.seen
agree-wiped from to before now image clean same outside is = record {
  size = is.size ∙ same.bytes;
  same = λ offset above below. elim (cases_lt offset (length before.seen)) [
    | inl inside ↦
        let out = outside offset above below in
        is.kept offset (same.clean offset out (clean offset inside)) ∙ same.seen offset out
    | inr past ↦ get_or_past image offset 0 (omega (arith, is.size, same.bytes, past)) ∙ sym (get_or_past before.seen offset 0 past)
  ];
}

pub body-wiped : (first slot : ℕ) (before now : State) (image : List ℕ) → IsClean before → Wipes first before now → slot < 2 → IsCrashImage now image
    → IsSameBody slot before.seen image
body-wiped first slot before now image clean wipes lt is =
    same-body slot before.seen image
    (agree-wiped (4096 * slot + 512) (4096 * slot + 4096) before now image clean wipes.same
    (λ offset above below named two opened starts. omega arith) is)

pub page-wiped : (first block : ℕ) (before now : State) (image : List ℕ) → IsClean before → Wipes first before now → 2 ≤ block → IsCrashImage now image
    → page_of block image ≡ page_of block before.seen
page-wiped first block before now image clean wipes behind is =
    part-agree (4096 * block) 4096 (4096 * block) (4096 * block + 4096) image before.seen (omega arith) (omega arith)
    (agree-wiped (4096 * block) (4096 * block + 4096) before now image clean wipes.same
    (λ offset above below named two opened starts. omega arith) is)
