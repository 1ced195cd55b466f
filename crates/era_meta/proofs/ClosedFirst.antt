-- Which gate a restoring closes first, from the bytes of both slots.
use Rattle.std.proofs.Common.{◌≡◌, ℕ, ◌-◌, ◌↔◌, true, List, length, take, drop, sym, ap, ◌∙◌, subst, arith}
use Rattle.era_slots.specs.declared.heads.Head.{Head}
use Rattle.era_slots.specs.Found.{IsHeadOf}
use Rattle.era_slots.specs.Slot.{SlotIsOpen, body_of, commit_number, page_of}
use Rattle.era_meta.specs.Meaning.{IsRootBody}
use Rattle.era_meta.specs.Restoring.{HasOlder, IsSecondOlder}

-- a slot is read from its block
abbrev pub GateLaw : Type 0
GateLaw = (slot : ℕ) (seen : List ℕ) → SlotIsOpen 0 (page_of slot seen) ↔ SlotIsOpen slot seen

abbrev pub NumberLaw : Type 0
NumberLaw = (slot : ℕ) (seen : List ℕ) → commit_number 0 (page_of slot seen) ≡ commit_number slot seen

abbrev pub BodyLaw : Type 0
BodyLaw = (slot : ℕ) (seen : List ℕ) → body_of 0 (page_of slot seen) ≡ body_of slot seen

-- the bytes behind the head of a slot
abbrev pub body-bytes : List ℕ → List ℕ
body-bytes page = take (length page - 520) (drop 520 page)

body-in : (page : List ℕ) → length page ≡ 4096 → body-bytes page ≡ body_of 0 page
unfolding body_of
body-in page size = ap (λ (n : ℕ). take n (drop 520 page)) (let e : length page - 520 ≡ 3576 = omega arith in e)

pub body-at : BodyLaw → (slot : ℕ) (seen page : List ℕ) → length page ≡ 4096 → page ≡ page_of slot seen → body-bytes page ≡ body_of slot seen
body-at bodies slot seen page size is = body-in page size ∙ ap (body_of 0) is ∙ bodies slot seen

open-at : GateLaw → (slot : ℕ) (seen page : List ℕ) (head : Head) → page ≡ page_of slot seen → IsHeadOf page head → (head.is_open ≡ true) ↔ SlotIsOpen slot seen
open-at gates slot seen page head is read = (
  λ flag. (gates slot seen).0 (subst (SlotIsOpen 0) is (read.opened.0 flag)),
  λ opened. read.opened.1 (subst (SlotIsOpen 0) (sym is) ((gates slot seen).1 opened)),
)

number-at-slot : NumberLaw → (slot : ℕ) (seen page : List ℕ) (head : Head) → page ≡ page_of slot seen → IsHeadOf page head → head.number ≡ commit_number slot seen
number-at-slot numbers slot seen page head is read = read.numbered ∙ ap (commit_number 0) is ∙ numbers slot seen

pub second-older : GateLaw → NumberLaw → BodyLaw → (seen zero one : List ℕ) (first second : Head) → length zero ≡ 4096 → length one ≡ 4096
    → zero ≡ page_of 0 seen → one ≡ page_of 1 seen → IsHeadOf zero first → IsHeadOf one second → HasOlder first second
    → IsRootBody (body-bytes zero) → IsRootBody (body-bytes one) → IsSecondOlder seen
second-older gates numbers bodies seen zero one first second size size' is is' read read' older own beside =
    let n = number-at-slot numbers 0 seen zero first is read in let n' = number-at-slot numbers 1 seen one second is' read' in
    record {
      first = (open-at gates 0 seen zero first is read).0 older.own;
      second = (open-at gates 1 seen one second is' read').0 older.beside;
      older = let less = older.older in omega (arith, n, n', less);
      own = subst IsRootBody (body-at bodies 0 seen zero size is) own;
      beside = subst IsRootBody (body-at bodies 1 seen one size' is') beside;
    }

pub older-heads : GateLaw → NumberLaw → (seen zero one : List ℕ) (first second : Head) → zero ≡ page_of 0 seen → one ≡ page_of 1 seen
    → IsHeadOf zero first → IsHeadOf one second → IsSecondOlder seen → HasOlder first second
older-heads gates numbers seen zero one first second is is' read read' older =
    let n = number-at-slot numbers 0 seen zero first is read in let n' = number-at-slot numbers 1 seen one second is' read' in
    record {
      own = (open-at gates 0 seen zero first is read).1 older.first;
      beside = (open-at gates 1 seen one second is' read').1 older.second;
      older = let less = older.older in omega (arith, n, n', less);
    }
