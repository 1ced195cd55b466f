-- The moments of a commit, and where the slots stand behind it.
use Rattle.std.proofs.Common.{◌≡◌, ℕ, ◌+◌, ◌-◌, ◌*◌, ◌^◌, ◌<◌, ◌⊎◌, true, false, List, get_or, ltb, sym, ◌∙◌, subst, arith, inl, inr}
use Rattle.std.specs.Prelude.{Result, Ok, Err, OnErr}
use Rattle.std.proofs.lemmas.Bool.{cases_lt, false≢true}
use Rattle.std.proofs.lemmas.Bool.Decides.{Decides-ltb}
use Rattle.era_base.specs.CrashModel.{State, History, IsCrashImage, SameBut, Went}
use Rattle.era_slots.specs.Calls.{HasBody, HasGate}
use Rattle.era_slots.specs.Slot.{other, commit_number, body_of, Stores, closed_gate, open_gate}
use Rattle.era_slots.specs.Standing.{IsCommitted, Stands}
use Rattle.era_slots.specs.Promise.{HasCommitted, IsStaged, IsSealed, Commits, IsStored}
use Rattle.era_base.proofs.Moments.{went-join, went-wider, went-now}
use Rattle.era_slots.proofs.Changes.{same_but-join, same_but-wider}
use Rattle.era_slots.proofs.Bytes.{written-closed, written-open}
use Rattle.era_slots.proofs.Images.{image-committed, image-left, image-either}
use Rattle.era_slots.proofs.Stays.{stands-stays, committed-before, pages-stay, number-stays, body-stays, body-kept}

-- the gate that was closed is known to be closed
pub stands-begun : (target number : ℕ) (now : State) → Stands target number true now → HasGate target closed_gate now
    → Stands target number false now
stands-begun target number now stands put =
    let slot = stands.slot in
    let size = stands.size in
    record {
      slot = stands.slot;
      size = stands.size;
      below = stands.below;
      blank = stands.blank;
      committed = stands.committed;
      closed = λ flag. record {
        clean = λ offset above below. put.clean offset (omega arith);
        closed = λ opened. omega (arith, opened, written-closed target now.seen put.written);
      };
      left = λ flag. absurd (false≢true flag);
    }

-- until the body is on the disk
pub commits-staged : (target number : ℕ) (body : List ℕ) (before now : State) → Stands target number false before
    → SameBut (4096 * target + 512) (4096 * target + 4096) before now → IsStaged target number before now
commits-staged target number body before now stands s =
    let slot = stands.slot in
    let stays : Stands target number false now = stands-stays target number (4096 * target + 512) (4096 * target + 4096) false before now
    (λ offset above below first. omega arith) (λ flag offset above below first. omega arith) (λ flag. absurd (false≢true flag)) s stands in
    record {
      images = λ image is. committed-before target number (4096 * target + 512) (4096 * target + 4096) before now image (λ offset above below first. omega arith) s
          (image-committed target number now image stays is);
      same = s;
      stands = stays;
    }

commits-of : (target number : ℕ) (body : List ℕ) (before now : State) → target < 2 → SameBut (4096 * target) (4096 * target + 4096) before now
    → IsStaged target number before now ⊎ IsSealed target number body before now → Commits target number body before now
commits-of target number body before now slot s step = record {
  step = step;
  same = s;
  kept = body-kept (other target) (4096 * target) (4096 * target + 4096) before now (λ offset above below first. omega arith) s;
  pages = pages-stay target (4096 * target) (4096 * target + 4096) before now (λ block behind differs offset above below first. omega arith) s;
}

pub commits-body : (target number : ℕ) (body : List ℕ) (before now : State) → Stands target number false before
    → SameBut (4096 * target + 512) (4096 * target + 4096) before now → Commits target number body before now
commits-body target number body before now stands s =
    commits-of target number body before now stands.slot
    (same_but-wider (4096 * target + 512) (4096 * target + 4096) (4096 * target) (4096 * target + 4096) before now (omega arith) (omega arith) s)
    (inl (commits-staged target number body before now stands s))

-- where the slots stand once the body is on the disk
pub stands-sealed : (target number : ℕ) (body : List ℕ) (mid : State) → number < 2 ^ 63 - 1 → Stands target number false mid
    → HasBody target (number + 1) body mid → Stands target number true mid
stands-sealed target number body mid few stands put =
    let slot = stands.slot in
    let size = stands.size in
    record {
      slot = stands.slot;
      size = stands.size;
      below = stands.below;
      blank = stands.blank;
      committed = stands.committed;
      closed = λ flag. absurd (false≢true (sym flag));
      left = λ flag. record {
        clean = λ offset above below. put.clean offset (omega arith);
        numbered = (omega (arith, put.numbered), omega (arith, put.numbered));
        order = inr put.numbered;
      };
    }

pub commits-sealed : (target number : ℕ) (body : List ℕ) (before mid now : State) → number < 2 ^ 63 - 1 → Stands target number false before
    → SameBut (4096 * target + 512) (4096 * target + 4096) before mid → HasBody target (number + 1) body mid
    → SameBut (4096 * target) (4096 * target + 512) mid now → IsSealed target number body before now
commits-sealed target number body before mid now few stands first put second =
    let slot = stands.slot in
    let staged = commits-staged target number body before mid stands first in
    let middle = stands-sealed target number body mid few staged.stands put in
    let stays : Stands target number true now = stands-stays target number (4096 * target) (4096 * target + 512) true mid now
    (λ offset above below first. omega arith) (λ flag. absurd (false≢true (sym flag))) (λ flag offset above below first. omega arith) second middle in
    let numbered : commit_number target now.seen ≡ number + 1
    = number-stays target (4096 * target) (4096 * target + 512) mid now (λ offset above below first. omega arith) second ∙ put.numbered in
    let holds : body_of target now.seen ≡ body
    = body-stays target (4096 * target) (4096 * target + 512) mid now (λ offset above below first. omega arith) second ∙ put.holds in
    record {
      images = λ image is. elim (image-left target number now image stays is) [
        | inl committed ↦ inl (committed-before target number (4096 * target + 512) (4096 * target + 4096) before mid image (λ offset above below first. omega arith) first
            (committed-before target number (4096 * target) (4096 * target + 512) mid now image (λ offset above below first. omega arith) second committed))
        | inr failed ↦ inr (subst (λ bytes. Stores target (number + 1) bytes image) holds failed.stored)
      ];
      stands = stays;
      numbered = numbered;
      holds = holds;
      durable = λ offset out below. second.clean offset out (put.clean offset (omega (arith, second.bytes)));
    }

pub commits-gate : (target number : ℕ) (body : List ℕ) (before mid now : State) → number < 2 ^ 63 - 1 → Stands target number false before
    → SameBut (4096 * target + 512) (4096 * target + 4096) before mid → HasBody target (number + 1) body mid
    → SameBut (4096 * target) (4096 * target + 512) mid now → Commits target number body before now
commits-gate target number body before mid now few stands first put second =
    commits-of target number body before now stands.slot
    (same_but-join (4096 * target) (4096 * target + 4096) before mid now
    (same_but-wider (4096 * target + 512) (4096 * target + 4096) (4096 * target) (4096 * target + 4096) before mid (omega arith) (omega arith) first)
    (same_but-wider (4096 * target) (4096 * target + 512) (4096 * target) (4096 * target + 4096) mid now (omega arith) (omega arith) second))
    (inr (commits-sealed target number body before mid now few stands first put second))

-- the whole commit, or the part of it up to the failure
pub went-body : (target number : ℕ) (body : List ℕ) (old mid : History) → Stands target number false old.now
    → Went (SameBut (4096 * target + 512) (4096 * target + 4096)) old mid → Went (Commits target number body) old mid
went-body target number body old mid stands went =
    went-wider (SameBut (4096 * target + 512) (4096 * target + 4096)) (Commits target number body) old mid
    (λ now s. commits-body target number body old.now now stands s) went

pub went-gate : (target number : ℕ) (body : List ℕ) (old mid new : History) → number < 2 ^ 63 - 1 → Stands target number false old.now
    → Went (SameBut (4096 * target + 512) (4096 * target + 4096)) old mid → HasBody target (number + 1) body mid.now
    → Went (SameBut (4096 * target) (4096 * target + 512)) mid new → Went (Commits target number body) old new
went-gate target number body old mid new few stands first put second =
    went-join (SameBut (4096 * target + 512) (4096 * target + 4096)) (SameBut (4096 * target) (4096 * target + 512)) (Commits target number body) old mid new
    first second
    (λ now s. commits-body target number body old.now now stands s)
    (λ now one s. commits-gate target number body old.now mid.now now few stands one put s)

-- the last moment of a commit that came to the gate
pub sealed-now : (target number : ℕ) (body : List ℕ) (old mid new : History) → number < 2 ^ 63 - 1 → Stands target number false old.now
    → Went (SameBut (4096 * target + 512) (4096 * target + 4096)) old mid → HasBody target (number + 1) body mid.now
    → Went (SameBut (4096 * target) (4096 * target + 512)) mid new → IsSealed target number body old.now new.now
sealed-now target number body old mid new few stands first put second =
    commits-sealed target number body old.now mid.now new.now few stands (went-now _ old mid first) put (went-now _ mid new second)

-- where the slots stand behind a commit that answered Ok
other-of : (target : ℕ) → target < 2 → other (other target) ≡ target
other-of target lt = omega arith

none-of : (number : ℕ) → ltb 0 number ≡ false → number ≡ 0
none-of number flag = elim (cases_lt 0 number) [
  | inl lt ↦ absurd (false≢true (sym flag ∙ (Decides-ltb 0 number).1 lt))
  | inr le ↦ omega arith
]

some-of : (number : ℕ) → ltb 0 number ≡ true → 0 < number
some-of number flag = (Decides-ltb 0 number).0 flag

pub stands-stored : (target number : ℕ) (body : List ℕ) (before now : State) → number < 2 ^ 63 - 1 → IsSealed target number body before now
    → HasGate target open_gate now → Stands (other target) (number + 1) (ltb 0 number) now
stands-stored target number body before now few sealed put =
    let s = sealed.stands in
    let slot = s.slot in
    let size = s.size in
    let opened : get_or now.seen (4096 * target) 0 ≡ 1 = written-open target now.seen put.written in
    let new : IsCommitted target (number + 1) now = record {
      clean = λ offset above below. put.clean offset (omega arith);
      opened = opened;
      numbered = sealed.numbered;
    } in
    record {
      slot = omega arith;
      size = size;
      below = omega arith;
      blank = λ none. absurd (omega arith);
      committed = λ some. subst (λ k. IsCommitted k (number + 1) now) (sym (other-of target slot)) new;
      closed = λ flag. s.blank (none-of number flag);
      left = λ flag.
          let c = s.committed (some-of number flag) in
          record {
            clean = λ offset above below. c.clean offset (omega arith) (omega arith);
            numbered = (omega (arith, c.numbered, some-of number flag), omega (arith, c.numbered));
            order = inl (omega (arith, c.numbered));
          };
    }

-- a state whose other slot can only be older
images-stored : (target number : ℕ) (body : List ℕ) (now : State) (image : List ℕ) → Stands (other target) (number + 1) (ltb 0 number) now
    → (0 < number → commit_number (other target) now.seen ≡ number) → target < 2 → body_of target now.seen ≡ body
    → IsCrashImage now image → Stores target (number + 1) body image
images-stored target number body now image stands older slot holds is =
    let has : HasCommitted (other target) (number + 1) now image = elim (image-either (other target) (number + 1) (ltb 0 number) now image stands is) [
      | inl committed ↦ committed
      | inr failed ↦ absurd (omega (arith, failed.1.failed, older (some-of number failed.0)))
    ] in
    let stored = has.committed (omega arith) in
    subst (λ bytes. Stores target (number + 1) bytes image) holds
    (subst (λ k. Stores k (number + 1) (body_of k now.seen) image) (other-of target slot) stored)

-- behind a commit that answered Ok each crash image has the new body alone
pub stored-now : (target number : ℕ) (body : List ℕ) (before now : State) → number < 2 ^ 63 - 1 → IsSealed target number body before now
    → HasGate target open_gate now → IsStored target number body now
stored-now target number body before now few sealed put = record {
  images = λ image is. images-stored target number body now image (stands-stored target number body before now few sealed put)
      (λ some. (sealed.stands.committed some).numbered) sealed.stands.slot sealed.holds is;
  clean = put.clean;
  holds = sealed.holds;
  gate = put.written;
  older = λ some. (sealed.stands.committed some).numbered;
}

-- a fact at an error, whatever the error is
pub on_err : {T E : Type 0} (result : Result T E) {Holds : Type 0} → Holds → OnErr result Holds
on_err (Ok x) holds = tt
on_err (Err e) holds = holds
