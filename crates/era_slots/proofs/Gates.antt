-- Which gates are open in the images of a wiping, and which bytes stay.
use Rattle.std.proofs.Common.{◌≡◌, ℕ, ◌+◌, ◌*◌, ◌<◌, ◌≤◌, ◌⊎◌, ◌↔◌, Bool, true, false, List, length, get_or, refl, sym, ◌∙◌, subst, arith, inl, inr}
use Rattle.std.proofs.lemmas.Bool.{cases_lt, cases_eq, false≢true}
use Rattle.std.proofs.lemmas.List.{ext_get_or, get_or_past}
use Rattle.era_base.specs.CrashModel.{State, History, IsCrashImage, SameBut, Leaves, IsClean, Went}
use Rattle.era_slots.specs.Slot.{other, SlotIsOpen, SlotIsClosed}
use Rattle.era_slots.specs.Wiping.{IsSameGate, HasGates, IsOutsideOpenGates, SameButOpenGates, Wipes, Shuts, gate_end}
use Rattle.era_base.proofs.Moments.{went-join, went-wider}

closed-or-open : (slot : ℕ) (image : List ℕ) → SlotIsClosed slot image ⊎ SlotIsOpen slot image
closed-or-open slot image = elim (cases_eq (get_or image (4096 * slot) 0) 1) [ inl same ↦ inr same | inr differs ↦ inl differs ]

-- the bytes of a gate lie outside of another one
pub end-apart : (slot : ℕ) (is_open : Bool) (offset : ℕ) → (offset < 4096 * slot) ⊎ (4096 * slot + 512 ≤ offset) → 4096 * slot ≤ offset → gate_end slot is_open ≤ offset
end-apart slot true offset out above = elim out [ inl below ↦ absurd (omega arith) | inr behind ↦ behind ]
end-apart slot false offset out above = above

-- a gate that was on the disk and whose slot did not change is in each image as it was
gate-kept : (slot changed : ℕ) (is_open : Bool) (before now : State) (image : List ℕ) → IsClean before → 4096 * slot < length before.seen
    → (4096 * slot < 4096 * changed) ⊎ (4096 * changed + 512 ≤ 4096 * slot)
    → SameBut (4096 * changed) (gate_end changed is_open) before now → IsCrashImage now image
    → get_or image (4096 * slot) 0 ≡ get_or before.seen (4096 * slot) 0
gate-kept slot changed is_open before now image clean size apart s is =
    let out : 4096 * changed ≤ 4096 * slot → gate_end changed is_open ≤ 4096 * slot = end-apart changed is_open (4096 * slot) apart in
    is.kept (4096 * slot) (s.clean (4096 * slot) out (clean (4096 * slot) size)) ∙ s.seen (4096 * slot) out

-- a gate that was closed and wasn't written is closed in each image
gate-closed : (slot : ℕ) (before now : State) (image : List ℕ) → IsClean before → 4096 * slot < length before.seen
    → SameBut (4096 * slot) (gate_end slot false) before now → IsCrashImage now image
    → get_or image (4096 * slot) 0 ≡ get_or before.seen (4096 * slot) 0
gate-closed slot before now image clean size s is =
    is.kept (4096 * slot) (s.clean (4096 * slot) (λ above. above) (clean (4096 * slot) size)) ∙ s.seen (4096 * slot) (λ above. above)

same-gate : (slot : ℕ) (seen image : List ℕ) → get_or image (4096 * slot) 0 ≡ get_or seen (4096 * slot) 0 → IsSameGate slot seen image
same-gate slot seen image same = (λ opened. sym same ∙ opened, λ opened. same ∙ opened)

pub apart-gates : (first : ℕ) → first < 2 → (4096 * other first < 4096 * first) ⊎ (4096 * first + 512 ≤ 4096 * other first)
apart-gates first slot = elim (cases_lt first 1) [ inl none ↦ inr (omega arith) | inr one ↦ inl (omega arith) ]

pub gates-apart : (first : ℕ) → first < 2 → (4096 * first < 4096 * other first) ⊎ (4096 * other first + 512 ≤ 4096 * first)
gates-apart first slot = elim (cases_lt first 1) [ inl none ↦ inl (omega arith) | inr one ↦ inr (omega arith) ]

gates-first-cases : (first : ℕ) (is_open : Bool) (before now : State) (image : List ℕ) → 12288 ≤ length before.seen → first < 2 → IsClean before
    → (is_open ≡ true) ↔ SlotIsOpen first before.seen → SameBut (4096 * first) (gate_end first is_open) before now → IsCrashImage now image
    → IsSameGate (other first) before.seen image → HasGates first before.seen image
gates-first-cases first false before now image size slot clean flag s is beside =
    inl (same-gate first before.seen image (gate-closed first before now image clean (omega arith) s is), beside)
gates-first-cases first true before now image size slot clean flag s is beside =
    elim (closed-or-open first image) [
      | inl shut ↦ inr (shut, inl beside)
      | inr opened ↦ inl ((λ now. flag.0 refl, λ was. opened), beside)
    ]

was-open : (first : ℕ) (is_open : Bool) (seen : List ℕ) (mid now : State) (image : List ℕ) → 12288 ≤ length mid.seen → first < 2 → IsClean mid
    → (is_open ≡ true) ↔ SlotIsOpen (other first) seen → get_or mid.seen (4096 * other first) 0 ≡ get_or seen (4096 * other first) 0
    → SameBut (4096 * other first) (gate_end (other first) is_open) mid now → IsCrashImage now image
    → SlotIsOpen (other first) image → IsSameGate (other first) seen image
was-open first false seen mid now image size slot clean flag same s is opened =
    same-gate (other first) seen image (gate-closed (other first) mid now image clean (omega arith) s is ∙ same)
was-open first true seen mid now image size slot clean flag same s is opened = (λ now. flag.0 refl, λ was. opened)

-- while the first gate is closed
pub gates-first : (first : ℕ) (is_open : Bool) (before now : State) → first < 2 → 12288 ≤ length before.seen → IsClean before
    → (is_open ≡ true) ↔ SlotIsOpen first before.seen → SameBut (4096 * first) (gate_end first is_open) before now
    → Leaves (HasGates first before.seen) now
gates-first first is_open before now slot size clean flag s image is =
    let beside = same-gate (other first) before.seen image
    (gate-kept (other first) first is_open before now image clean (omega arith) (apart-gates first slot) s is) in
    gates-first-cases first is_open before now image size slot clean flag s is beside

-- once the first gate is closed
pub gates-second : (first : ℕ) (is_open : Bool) (seen : List ℕ) (mid now : State) → first < 2 → 12288 ≤ length mid.seen → IsClean mid → SlotIsClosed first mid.seen
    → (is_open ≡ true) ↔ SlotIsOpen (other first) seen → get_or mid.seen (4096 * other first) 0 ≡ get_or seen (4096 * other first) 0
    → SameBut (4096 * other first) (gate_end (other first) is_open) mid now → Leaves (HasGates first seen) now
gates-second first is_open seen mid now slot size clean closed flag same s image is =
    let kept = gate-kept first (other first) is_open mid now image clean (omega arith) (gates-apart first slot) s is in
    let first_closed : SlotIsClosed first image = λ opened. closed (sym kept ∙ opened) in
    elim (closed-or-open (other first) image) [
      | inl shut ↦ inr (first_closed, inr shut)
      | inr opened ↦ inr (first_closed, inl (was-open first is_open seen mid now image size slot clean flag same s is opened))
    ]

-- what stays
outside-end : (slot : ℕ) (is_open : Bool) (seen : List ℕ) (offset : ℕ) → slot < 2 → (is_open ≡ true → SlotIsOpen slot seen) → IsOutsideOpenGates seen offset
    → 4096 * slot ≤ offset → gate_end slot is_open ≤ offset
outside-end slot true seen offset lt flag out above = out slot lt (flag refl) above
outside-end slot false seen offset lt flag out above = above

pub gates-none : (state : State) → SameButOpenGates state state
gates-none state = record { bytes = refl; seen = λ offset out. refl; clean = λ offset out is. is }

pub gates-step : (slot : ℕ) (is_open : Bool) (before mid now : State) → slot < 2 → (is_open ≡ true → SlotIsOpen slot before.seen)
    → SameButOpenGates before mid → SameBut (4096 * slot) (gate_end slot is_open) mid now → SameButOpenGates before now
gates-step slot is_open before mid now lt flag one two = record {
  bytes = two.bytes ∙ one.bytes;
  seen = λ offset out. two.seen offset (outside-end slot is_open before.seen offset lt flag out) ∙ one.seen offset out;
  clean = λ offset out is. two.clean offset (outside-end slot is_open before.seen offset lt flag out) (one.clean offset out is);
}

pub seen-same : (before now : State) → SameBut 0 0 before now → now.seen ≡ before.seen
seen-same before now s = ext_get_or 0 now.seen before.seen s.bytes (λ i lt. s.seen i (λ above. above))

as-it-was : (slot : ℕ) (before now : State) (image : List ℕ) → IsClean before → SameBut 0 0 before now → IsCrashImage now image
    → get_or image (4096 * slot) 0 ≡ get_or before.seen (4096 * slot) 0
as-it-was slot before now image clean s is = elim (cases_lt (4096 * slot) (length before.seen)) [
  | inl lt ↦ is.kept (4096 * slot) (s.clean (4096 * slot) (λ above. above) (clean (4096 * slot) lt)) ∙ s.seen (4096 * slot) (λ above. above)
  | inr past ↦ get_or_past image (4096 * slot) 0 (omega (arith, is.size, s.bytes)) ∙ sym (get_or_past before.seen (4096 * slot) 0 past)
]

-- until the first sync has answered Ok
pub wipes-unsynced : (first : ℕ) (before now : State) → SameBut 0 0 before now → Wipes first before now
wipes-unsynced first before now s = record {
  images = inl s;
  unpending = λ clean image is. inl (
    same-gate first before.seen image (as-it-was first before now image clean s is),
    same-gate (other first) before.seen image (as-it-was (other first) before now image clean s is),
  );
  same = record {
    bytes = s.bytes;
    seen = λ offset out. s.seen offset (λ above. above);
    clean = λ offset out is. s.clean offset (λ above. above) is;
  };
}

-- a moment behind the first sync
pub wipes-synced : (first : ℕ) (before mid now : State) → SameBut 0 0 before mid → Wipes first mid now → IsClean mid → Wipes first before now
wipes-synced first before mid now s wipes clean =
    let seen = seen-same before mid s in
    let gates : Leaves (HasGates first before.seen) now = subst (λ bytes. Leaves (HasGates first bytes) now) seen (wipes.unpending clean) in
    record {
      images = inr gates;
      unpending = λ unpending. gates;
      same = record {
        bytes = wipes.same.bytes ∙ s.bytes;
        seen = λ offset out. wipes.same.seen offset (subst (λ bytes. IsOutsideOpenGates bytes offset) (sym seen) out) ∙ s.seen offset (λ above. above);
        clean = λ offset out is. wipes.same.clean offset (subst (λ bytes. IsOutsideOpenGates bytes offset) (sym seen) out) (s.clean offset (λ above. above) is);
      };
    }

-- the moments of the first closing, and of both
pub wipes-first : (first : ℕ) (is_open : Bool) (before now : State) → first < 2 → 12288 ≤ length before.seen → IsClean before
    → (is_open ≡ true) ↔ SlotIsOpen first before.seen → SameBut (4096 * first) (gate_end first is_open) before now → Wipes first before now
wipes-first first is_open before now slot size clean flag s =
    let gates = gates-first first is_open before now slot size clean flag s in
    record { images = inr gates; unpending = λ unpending. gates; same = gates-step first is_open before before now slot flag.0 (gates-none before) s }

pub wipes-second : (first : ℕ) (is_open is_open' : Bool) (before mid now : State) → first < 2 → 12288 ≤ length before.seen → IsClean before → IsClean mid
    → SlotIsClosed first mid.seen → (is_open ≡ true) ↔ SlotIsOpen first before.seen → (is_open' ≡ true) ↔ SlotIsOpen (other first) before.seen
    → SameBut (4096 * first) (gate_end first is_open) before mid → SameBut (4096 * other first) (gate_end (other first) is_open') mid now
    → Wipes first before now
wipes-second first is_open is_open' before mid now slot size clean clean' closed flag flag' s s' =
    let kept : get_or mid.seen (4096 * other first) 0 ≡ get_or before.seen (4096 * other first) 0
    = s.seen (4096 * other first) (end-apart first is_open (4096 * other first) (apart-gates first slot)) in
    let gates = gates-second first is_open' before.seen mid now slot (omega (arith, s.bytes)) clean' closed flag' kept s' in
    record {
      images = inr gates;
      unpending = λ unpending. gates;
      same = gates-step (other first) is_open' before mid now (omega arith) flag'.0
          (gates-step first is_open before before mid slot flag.0 (gates-none before) s) s';
    }

-- the moments of the first closing
pub went-first : (first : ℕ) (is_open : Bool) (old new : History) → first < 2 → 12288 ≤ length old.now.seen → IsClean old.now
    → (is_open ≡ true) ↔ SlotIsOpen first old.now.seen → Went (SameBut (4096 * first) (gate_end first is_open)) old new → Went (Wipes first) old new
went-first first is_open old new slot size clean flag went =
    went-wider (SameBut (4096 * first) (gate_end first is_open)) (Wipes first) old new
    (λ now s. wipes-first first is_open old.now now slot size clean flag s) went

-- the moments of both closings
pub went-second : (first : ℕ) (is_open is_open' : Bool) (old mid new : History) → first < 2 → 12288 ≤ length old.now.seen → IsClean old.now
    → Shuts first is_open old.now mid.now
    → (is_open ≡ true) ↔ SlotIsOpen first old.now.seen → (is_open' ≡ true) ↔ SlotIsOpen (other first) old.now.seen
    → Went (SameBut (4096 * first) (gate_end first is_open)) old mid → Went (SameBut (4096 * other first) (gate_end (other first) is_open')) mid new
    → Went (Wipes first) old new
went-second first is_open is_open' old mid new slot size clean shut flag flag' one two =
    let closed = shut.closed clean (λ no opened. false≢true (sym no ∙ flag.1 opened)) in
    went-join (SameBut (4096 * first) (gate_end first is_open)) (SameBut (4096 * other first) (gate_end (other first) is_open')) (Wipes first) old mid new
    one two
    (λ now s. wipes-first first is_open old.now now slot size clean flag s)
    (λ now s s'. wipes-second first is_open is_open' old.now mid.now now slot size clean closed.0 closed.1 flag flag' s s')

-- the moments of a wiping that came to the gates
pub went-wiped : (first target : ℕ) (old mid new : History) → target ≡ first → Went (SameBut 0 0) old mid → IsClean mid.now → Went (Wipes first) mid new
    → Went (Wipes target) old new
went-wiped first target old mid new e one clean two =
    subst (λ k. Went (Wipes k) old new) (sym e)
    (went-join (SameBut 0 0) (Wipes first) (Wipes first) old mid new one two
    (λ now s. wipes-unsynced first old.now now s)
    (λ now s wipes. wipes-synced first old.now mid.now now s wipes clean))

pub is-second : (first : ℕ) → (first ≡ 0 → ⊥) → first < 2 → first ≡ 1
is-second first differs lt = omega (arith, differs)
