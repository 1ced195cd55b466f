-- What a wiping leaves of a disk that stands for a meaning.
use Rattle.std.proofs.Common.{◌≡◌, ℕ, ◌+◌, ◌*◌, ◌<◌, ◌≤◌, ◌⊎◌, inl, inr, List, length, sym, ap, ◌∙◌, subst, arith}
use Rattle.std.proofs.lemmas.Bool.{cases_eq, cases_lt}
use Rattle.std.proofs.lemmas.Grind.{same_number_lists}
use Rattle.era_base.specs.Geometry.{need_of}
use Rattle.era_base.specs.CrashModel.{State, History, Went, SameBut, IsClean, IsCrashImage, Leaves, clock}
use Rattle.era_base.proofs.Moments.{went-join, went-now, went-wider}
use Rattle.era_slots.specs.Slot.{other, SlotIsOpen, SlotIsClosed, body_of, commit_number, page_of, IsBlank, IsCommitNumber}
use Rattle.era_slots.specs.Promise.{IsSameBody}
use Rattle.era_slots.specs.Wiping.{HasGates, IsSameGate, Wipes, open_gates}
use Rattle.era_slots.specs.Calls.{HasFronts}
use Rattle.era_base.specs.Bytes.{part}
use Rattle.era_meta.specs.Content.{blocks_of_root}
use Rattle.era_meta.specs.Formatting.{LeavesBlankOr}
use Rattle.era_meta.specs.Meaning.{Meaning, pages_in, reached, IsRootBody, IsImageOf}
use Rattle.era_meta.specs.Restoring.{IsClosedFirst, IsImageWhileWiping, IsSecondOlder, LeavesRestoring, LeavesWiping}
use Rattle.era_meta.proofs.Agree.{Agree, all_weaker, meaning-agree, whole-agree}
use Rattle.era_meta.proofs.FormatsKept.{same-images}
use Rattle.era_meta.proofs.Kept.{LiesIn, reached-lies}

-- bytes that have the numbers and the bodies of both slots, and all blocks behind them
pub record HasSame (seen image : List ℕ) : Type 0 where
  pub size : length image ≡ length seen
  pub bodies : (slot : ℕ) → slot < 2 → IsSameBody slot seen image
  pub pages : (block : ℕ) → 2 ≤ block → page_of block image ≡ page_of block seen

beside-two : (slot : ℕ) → slot < 2 → other slot < 2
beside-two slot two = omega arith

-- where the gate of the active slot is open, and the other one isn't unless it was
pub still-stands : (old : Meaning) (seen image : List ℕ) (is : IsImageOf old seen) → HasSame seen image → SlotIsOpen is.slot image
    → (SlotIsOpen (other is.slot) image → SlotIsOpen (other is.slot) seen) → IsImageOf old image
still-stands old seen image is same opened back =
    let own = same.bodies is.slot is.two in
    let beside = same.bodies (other is.slot) (beside-two is.slot is.two) in
    let agree : Agree (pages_in seen) (pages_in image) (reached is.root is.held)
    = all_weaker (LiesIn is.root) (λ block. pages_in seen block ≡ pages_in image block) (reached is.root is.held)
    (λ block lies. sym (same.pages block lies.0)) (reached-lies (pages_in seen) is.root is.held is.whole) in
    record {
      slot = is.slot;
      two = is.two;
      active = record {
        opened = opened;
        numbered = subst IsCommitNumber (sym own.numbered) is.active.numbered;
        newest = λ also.
            let newest = is.active.newest (back also) in let n = own.numbered in let n' = beside.numbered in
            (omega (arith, newest.0, n'), omega (arith, newest.1, n, n'));
      };
      root = is.root;
      held = is.held;
      spelled = own.holds ∙ is.spelled;
      whole = whole-agree (pages_in seen) (pages_in image) is.root is.held agree is.whole;
      room = subst (λ (n : ℕ). 4096 * need_of (blocks_of_root is.root) ≤ n) (sym same.size) is.room;
      beside = λ also. subst IsRootBody (sym beside.holds) (is.beside (back also));
      says = is.says ∙ meaning-agree (pages_in seen) (pages_in image) is.root is.held agree;
    }

slot-one : (slot : ℕ) → slot < 2 → (slot ≡ 0 → ⊥) → slot ≡ 1
slot-one slot two some = elim (cases_eq slot 1) [
  | inl one_is ↦ one_is
  | inr none ↦ elim (cases_lt slot 1) [
    | inl low ↦ absurd (some (omega arith))
    | inr high ↦ omega arith
  ]
]

-- the older one of two open slots is closed first
older-first : (old : Meaning) (seen : List ℕ) (first : ℕ) (is : IsImageOf old seen) → IsClosedFirst seen first → first ≡ is.slot → SlotIsClosed (other is.slot) seen
older-first old seen first is closed same opened =
    let newest = (is.active.newest opened).1 in let own : IsRootBody (body_of is.slot seen) = (is.root, is.whole.valid, is.spelled) in let beside = is.beside opened in
    elim (cases_eq is.slot 0) [
      | inl zero_is ↦
          let older : IsSecondOlder seen = record {
            first = subst (λ (k : ℕ). SlotIsOpen k seen) zero_is is.active.opened;
            second = subst (λ (k : ℕ). SlotIsOpen (other k) seen) zero_is opened;
            older = subst (λ (k : ℕ). commit_number (other k) seen < commit_number k seen) zero_is newest;
            own = subst (λ (k : ℕ). IsRootBody (body_of k seen)) zero_is own;
            beside = subst (λ (k : ℕ). IsRootBody (body_of (other k) seen)) zero_is beside;
          } in
          let one_is = closed.second.1 older in absurd (omega (arith, one_is, same, zero_is))
      | inr one_not ↦
          let two = is.two in
          let one_is : is.slot ≡ 1 = slot-one is.slot two one_not in
          let older = closed.second.0 (same ∙ one_is) in
          let less = older.older in
          let more : commit_number 0 seen < commit_number 1 seen = subst (λ (k : ℕ). commit_number (other k) seen < commit_number k seen) one_is newest in
          absurd (omega (arith, less, more))
    ]

-- each slot is one of the two that are closed
slot-either : (first slot : ℕ) → first < 2 → slot < 2 → (first ≡ slot) ⊎ ((other first ≡ slot) × (first ≡ other slot))
slot-either first slot one two = elim (cases_eq first slot) [
  | inl same ↦ inl same
  | inr differ ↦ elim (cases_lt first slot) [
    | inl less ↦ inr (omega arith, omega arith)
    | inr most ↦ elim (cases_lt slot first) [
      | inl more ↦ inr (omega arith, omega arith)
      | inr none ↦ absurd (differ (omega arith))
    ]
  ]
]

closed-both : (first : ℕ) (image : List ℕ) → first < 2 → SlotIsClosed first image → SlotIsClosed (other first) image → IsBlank image
closed-both first image two one beside = elim (cases_eq first 0) [
  | inl zero_is ↦ (subst (λ (k : ℕ). SlotIsClosed k image) zero_is one, subst (λ (k : ℕ). SlotIsClosed (other k) image) zero_is beside)
  | inr some ↦
      let one_is = slot-one first two some in
      (subst (λ (k : ℕ). SlotIsClosed (other k) image) one_is beside, subst (λ (k : ℕ). SlotIsClosed k image) one_is one)
]

-- the gates as they were, or without the first, or closed
pub wiped-image : (old : Meaning) (seen image : List ℕ) (first : ℕ) → IsImageOf old seen → IsClosedFirst seen first → HasSame seen image → HasGates first seen image
    → IsImageOf old image ⊎ IsBlank image
wiped-image old seen image first is closed same (inl both) = elim (slot-either first is.slot closed.two is.two) [
  | inl own ↦ inl (still-stands old seen image is same ((subst (λ (k : ℕ). IsSameGate k seen image) own both.0).1 is.active.opened)
      (subst (λ (k : ℕ). IsSameGate (other k) seen image) own both.1).0)
  | inr beside ↦ inl (still-stands old seen image is same ((subst (λ (k : ℕ). IsSameGate k seen image) beside.0 both.1).1 is.active.opened)
      (subst (λ (k : ℕ). IsSameGate k seen image) beside.1 both.0).0)
]
wiped-image old seen image first is closed same (inr shut) = elim (slot-either first is.slot closed.two is.two) [
  | inl own ↦ elim shut.1 [
    | inl gate ↦ inr (closed-both first image closed.two shut.0 (λ opened.
        older-first old seen first is closed own (subst (λ (k : ℕ). SlotIsOpen (other k) seen) own (gate.0 opened))))
    | inr all ↦ inr (closed-both first image closed.two shut.0 all)
  ]
  | inr beside ↦ elim shut.1 [
    | inl gate ↦ inl (still-stands old seen image is same ((subst (λ (k : ℕ). IsSameGate k seen image) beside.0 gate).1 is.active.opened)
        (λ opened. absurd (shut.0 (subst (λ (k : ℕ). SlotIsOpen k image) (sym beside.1) opened))))
    | inr all ↦ inr (closed-both first image closed.two shut.0 all)
  ]
]

-- where no gate is open none opens
still-closed : (slot : ℕ) (seen image : List ℕ) → IsSameGate slot seen image → SlotIsClosed slot seen → SlotIsClosed slot image
still-closed slot seen image same closed opened = closed (same.0 opened)

closed-both-of : (first : ℕ) (seen : List ℕ) → first < 2 → IsBlank seen → SlotIsClosed first seen × SlotIsClosed (other first) seen
closed-both-of first seen two blank = elim (cases_eq first 0) [
  | inl zero_is ↦ (subst (λ (k : ℕ). SlotIsClosed k seen) (sym zero_is) blank.0, subst (λ (k : ℕ). SlotIsClosed (other k) seen) (sym zero_is) blank.1)
  | inr some ↦
      let one_is = slot-one first two some in
      (subst (λ (k : ℕ). SlotIsClosed k seen) (sym one_is) blank.1, subst (λ (k : ℕ). SlotIsClosed (other k) seen) (sym one_is) blank.0)
]

pub blank-image : (seen image : List ℕ) (first : ℕ) → first < 2 → HasGates first seen image → IsBlank seen → IsBlank image
blank-image seen image first two (inl both) blank =
    let closed = closed-both-of first seen two blank in
    closed-both first image two (still-closed first seen image both.0 closed.0) (still-closed (other first) seen image both.1 closed.1)
blank-image seen image first two (inr shut) blank =
    let closed = closed-both-of first seen two blank in
    closed-both first image two shut.0 (elim shut.1 [
      | inl gate ↦ still-closed (other first) seen image gate closed.1
      | inr all ↦ all
    ])

-- nothing has changed, so the bytes are the same
pub seen-same : (before now : State) → SameBut 0 0 before now → now.seen ≡ before.seen
seen-same before now same = same_number_lists now.seen before.seen same.bytes (λ offset lt. same.seen offset (λ low. omega arith))

-- laws of a wiping
abbrev pub WipedBodies : Type 0
WipedBodies = (first slot : ℕ) (before now : State) → IsClean before → Wipes first before now → slot < 2 → Leaves (IsSameBody slot before.seen) now

abbrev pub WipedPages : Type 0
WipedPages = (first block : ℕ) (before now : State) → IsClean before → Wipes first before now → 2 ≤ block → Leaves (λ image. page_of block image ≡ page_of block before.seen) now

pub wiped-leaves : WipedBodies → WipedPages → (first : ℕ) (before now : State) (image : List ℕ) → IsClean before → Wipes first before now → IsClosedFirst before.seen first → IsCrashImage now image
    → IsImageWhileWiping before.seen image
wiped-leaves bodies pages first before now image clean wipes closed is = record {
  marks = λ old stands. wiped-image old before.seen image first stands closed (record {
    size = is.size ∙ wipes.same.bytes;
    bodies = λ slot two. bodies first slot before now clean wipes two image is;
    pages = λ block behind. pages first block before now clean wipes behind image is;
  }) (wipes.unpending clean image is);
  blank = blank-image before.seen image first closed.two (wipes.unpending clean image is);
}

pub quiet-wiping : (old new : History) → Went (SameBut 0 0) old new → Went LeavesWiping old new
quiet-wiping old new went = went-wider (SameBut 0 0) LeavesWiping old new (λ state same image is. inl (same-images old.now state same image is)) went

pub wiping-leaves : WipedBodies → WipedPages → (first : ℕ) (old mid new : History) → Went (SameBut 0 0) old mid → IsClean mid.now → IsClosedFirst mid.now.seen first
    → Went (Wipes first) mid new → Went LeavesWiping old new
wiping-leaves bodies pages first old mid new one clean closed two =
    went-join (SameBut 0 0) (Wipes first) LeavesWiping old mid new one two
    (λ state same image is. inl (same-images old.now state same image is))
    (λ state same wipes image is. inr (subst (λ (seen : List ℕ). IsImageWhileWiping seen image) (seen-same old.now mid.now same)
    (wiped-leaves bodies pages first mid.now state image clean wipes closed is)))

-- and behind a wiping each image is blank or of the new meaning
wider : (meaning : Meaning) (before now : State) → LeavesWiping before now → LeavesRestoring meaning before now
wider meaning before now leaves image is = elim (leaves image is) [
  | inl was ↦ inl was
  | inr may ↦ inr (record {
    marks = λ old holds. elim (may.marks old holds) [
      | inl old_one ↦ inl old_one
      | inr blank ↦ inr (inl blank)
    ];
    blank = λ was. inl (may.blank was);
  })
]

pub quiet-restoring : (meaning : Meaning) (old new : History) → Went LeavesWiping old new → Went (LeavesRestoring meaning) old new
quiet-restoring meaning old new went =
    went-wider LeavesWiping (LeavesRestoring meaning) old new (λ state leaves. wider meaning old.now state leaves) went

pub restoring-leaves : (meaning : Meaning) (old mid new : History) → Went LeavesWiping old mid → Went (λ before. LeavesBlankOr meaning) mid new → Went (LeavesRestoring meaning) old new
restoring-leaves meaning old mid new one two =
    went-join LeavesWiping (λ before. LeavesBlankOr meaning) (LeavesRestoring meaning) old mid new one two
    (λ state leaves. wider meaning old.now state leaves)
    (λ state leaves new_ones image is. inr (record { marks = λ before stands. inr (new_ones image is); blank = λ was. new_ones image is }))

-- the bytes of both slots, once they were read
pub fronts-closed : (zero one : List ℕ) (first : ℕ) (now : State) → length zero ≡ 4096 → length one ≡ 4096 → HasFronts zero one now
    → ((seen : List ℕ) → zero ≡ page_of 0 seen → one ≡ page_of 1 seen → IsClosedFirst seen first) → IsClosedFirst now.seen first
fronts-closed zero one first now size size' fronts closed =
    closed now.seen (fronts.first ∙ ap (λ (n : ℕ). part 0 n now.seen) size) (fronts.second ∙ ap (λ (n : ℕ). part 4096 n now.seen) size')

-- the device calls of a wiping, counted from the first sync on
pub wiping-count : (old mid new : History) → Went (SameBut 0 0) old mid → clock mid ≡ clock old + 3 → clock new ≡ clock mid + (3 + 2 * open_gates mid.now.seen)
    → clock new ≡ clock old + (6 + 2 * open_gates old.now.seen)
wiping-count old mid new went read wiped =
    let gates = ap open_gates (seen-same old.now mid.now (went-now (SameBut 0 0) old mid went)) in
    omega (arith, read, wiped, gates)
