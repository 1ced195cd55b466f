-- What each crash image of a state has in its slots, where the slots stand.
use Rattle.std.proofs.Common.{◌≡◌, ℕ, zero, suc, ◌+◌, ◌*◌, ◌^◌, ◌<◌, ◌⊎◌, Bool, true, false, List, get_or, refl, sym, ◌∙◌, subst, arith, inl, inr}
use Rattle.std.proofs.lemmas.Bool.{cases_lt, cases_eq}
use Rattle.era_base.specs.CrashModel.{State, IsCrashImage}
use Rattle.era_slots.specs.Slot.{other, SlotIsOpen, SlotIsClosed, commit_number, body_of, IsBlank, IsCommitNumber, Stores}
use Rattle.era_slots.specs.Standing.{IsCleanIn, IsKnownClosed, IsCommitted, Stands}
use Rattle.era_slots.specs.Promise.{HasCommitted, HasFailed}
use Rattle.era_slots.proofs.Changes.{AgreeIn, agree-image}
use Rattle.era_slots.proofs.Bytes.{number-agree, body-agree}

-- a gate that is known to be closed is closed in each image
pub image-closed : (slot : ℕ) (state : State) (image : List ℕ) → IsKnownClosed slot state → IsCrashImage state image → SlotIsClosed slot image
image-closed slot state image known is = λ opened.
    known.closed (sym (is.kept (4096 * slot) (known.clean (4096 * slot) (omega arith) (omega arith))) ∙ opened)

-- a committed slot is as it is in each image
pub image-opened : (slot number : ℕ) (state : State) (image : List ℕ) → IsCommitted slot number state → IsCrashImage state image → SlotIsOpen slot image
image-opened slot number state image c is = is.kept (4096 * slot) (c.clean (4096 * slot) (omega arith) (omega arith)) ∙ c.opened

pub image-body : (slot : ℕ) (state : State) (image : List ℕ) → IsCleanIn (4096 * slot + 512) (4096 * slot + 4096) state → IsCrashImage state image
    → AgreeIn (4096 * slot + 512) (4096 * slot + 4096) image state.seen
image-body slot state image clean is = agree-image (4096 * slot + 512) (4096 * slot + 4096) state image clean is

pub committed-body : (slot number : ℕ) (state : State) → IsCommitted slot number state → IsCleanIn (4096 * slot + 512) (4096 * slot + 4096) state
committed-body slot number state c = λ offset above below. c.clean offset (omega arith) (omega arith)

-- the other slot's gate is closed in the image, or its number is smaller: the committed body is the image's
pub stores-committed : (target number : ℕ) (state : State) (image : List ℕ) → 0 < number → number < 2 ^ 63
    → IsCommitted (other target) number state → IsCrashImage state image
    → (SlotIsOpen (other (other target)) image → (0 < commit_number (other (other target)) image) × (commit_number (other (other target)) image < number))
    → Stores (other target) number (body_of (other target) state.seen) image
stores-committed target number state image some below c is newest =
    let agrees = image-body (other target) state image (committed-body (other target) number state c) is in
    let same : commit_number (other target) image ≡ number = number-agree (other target) image state.seen agrees ∙ c.numbered in
    record {
      active = record {
        opened = image-opened (other target) number state image c is;
        numbered = subst IsCommitNumber (sym same) (some, below);
        newest = λ opened. let n = newest opened in (n.0, omega (arith, n.1, same));
      };
      numbered = same;
      holds = body-agree (other target) image state.seen agrees;
    }

other-other : (target : ℕ) → target < 2 → other (other target) ≡ target
other-other target lt = omega arith

-- none is open but maybe the target's
closed-both : (target : ℕ) (image : List ℕ) → target < 2 → SlotIsClosed target image → SlotIsClosed (other target) image → IsBlank image
closed-both zero image lt one two = (one, two)
closed-both (suc zero) image lt one two = (two, one)
closed-both (suc (suc n)) image lt one two = absurd (omega arith)

-- the target's gate is known to be closed: the committed body alone
pub image-committed : (target number : ℕ) (state : State) (image : List ℕ) → Stands target number false state → IsCrashImage state image
    → HasCommitted target number state image
image-committed target number state image s is =
    let closed = image-closed target state image (s.closed refl) is in
    record {
      blank = λ none. closed-both target image s.slot closed (image-closed (other target) state image (s.blank none) is);
      committed = λ some. stores-committed target number state image some s.below (s.committed some) is
          (λ opened. absurd (closed (subst (λ slot. SlotIsOpen slot image) (other-other target s.slot) opened)));
    }

-- the target's body is the image's
stores-failed : (target number : ℕ) (state : State) (image : List ℕ) → Stands target number true state → IsCrashImage state image
    → SlotIsOpen target image → commit_number target state.seen ≡ number + 1
    → Stores target (number + 1) (body_of target state.seen) image
stores-failed target number state image s is opened next =
    let left = s.left refl in
    let agrees = image-body target state image left.clean is in
    let same : commit_number target image ≡ commit_number target state.seen = number-agree target image state.seen agrees in
    record {
      active = record {
        opened = opened;
        numbered = subst IsCommitNumber (sym same) left.numbered;
        newest = λ second. elim (cases_lt 0 number) [
          | inl some ↦
              let c = s.committed some in
              let is_number : commit_number (other target) image ≡ number
              = number-agree (other target) image state.seen (image-body (other target) state image (committed-body (other target) number state c) is) ∙ c.numbered in
              (omega (arith, is_number, some), omega (arith, is_number, same, next))
          | inr none ↦ absurd (image-closed (other target) state image (s.blank (omega arith)) is second)
        ];
      };
      numbered = same ∙ next;
      holds = body-agree target image state.seen agrees;
    }

closed-or-open : (slot : ℕ) (image : List ℕ) → SlotIsClosed slot image ⊎ SlotIsOpen slot image
closed-or-open slot image = elim (cases_eq (get_or image (4096 * slot) 0) 1) [ inl same ↦ inr same | inr differs ↦ inl differs ]

-- the target's gate may be open: the committed body, or the one whose commit failed in opening the gate
pub image-left : (target number : ℕ) (state : State) (image : List ℕ) → Stands target number true state → IsCrashImage state image
    → HasCommitted target number state image ⊎ HasFailed target number state image
image-left target number state image s is =
    let left = s.left refl in
    let same : commit_number target image ≡ commit_number target state.seen = number-agree target image state.seen (image-body target state image left.clean is) in
    elim (closed-or-open target image) [
      | inl closed ↦ inl (record {
        blank = λ none. closed-both target image s.slot closed (image-closed (other target) state image (s.blank none) is);
        committed = λ some. stores-committed target number state image some s.below (s.committed some) is
            (λ opened. absurd (closed (subst (λ slot. SlotIsOpen slot image) (other-other target s.slot) opened)));
      })
      | inr opened ↦ elim left.order [
        | inl older ↦ inl (record {
          blank = λ none. absurd (omega (arith, older, none));
          committed = λ some. stores-committed target number state image some s.below (s.committed some) is
              (λ again. subst (λ slot. (0 < commit_number slot image) × (commit_number slot image < number)) (sym (other-other target s.slot))
              (omega (arith, same, left.numbered.0), omega (arith, same, older)));
        })
        | inr next ↦ inr (record { failed = next; stored = stores-failed target number state image s is opened next })
      ]
    ]

-- the same with the flag as it is
pub image-either : (target number : ℕ) (may_be_open : Bool) (state : State) (image : List ℕ) → Stands target number may_be_open state → IsCrashImage state image
    → HasCommitted target number state image ⊎ ((may_be_open ≡ true) × HasFailed target number state image)
image-either target number false state image s is = inl (image-committed target number state image s is)
image-either target number true state image s is =
    elim (image-left target number state image s is) [ inl committed ↦ inl committed | inr failed ↦ inr (refl, failed) ]
