-- What of the slots stays while other bytes change.
use Rattle.std.proofs.Common.{◌≡◌, ◌≢◌, ℕ, ◌+◌, ◌*◌, ◌<◌, ◌≤◌, ◌⊎◌, Bool, true, false, List, refl, sym, ◌∙◌, subst, arith, inl, inr}
use Rattle.std.proofs.lemmas.Bool.{false≢true}
use Rattle.era_base.specs.CrashModel.{State, SameBut}
use Rattle.era_slots.specs.Slot.{other, commit_number, body_of, IsCommitNumber, Stores}
use Rattle.era_slots.specs.Standing.{IsKnownClosed, IsCommitted, IsOlderOrFailed, Stands}
use Rattle.era_slots.specs.Promise.{HasCommitted, HasFailed, KeepsPages, KeepsBody, Begins, PutsPage}
use Rattle.era_slots.proofs.Changes.{Apart, agree-same, agree-narrow, clean-same, part-agree, same_but-none}
use Rattle.era_slots.proofs.Bytes.{number-agree, body-agree}
use Rattle.era_slots.proofs.Images.{image-committed, image-either}

pub committed-stays : (slot number first last : ℕ) (before now : State) → Apart (4096 * slot) (4096 * slot + 4096) first last
    → SameBut first last before now → IsCommitted slot number before → IsCommitted slot number now
committed-stays slot number first last before now apart s c = record {
  clean = clean-same (4096 * slot) (4096 * slot + 4096) first last before now apart s c.clean;
  opened = s.seen (4096 * slot) (apart (4096 * slot) (omega arith) (omega arith)) ∙ c.opened;
  numbered = number-agree slot now.seen before.seen
      (agree-narrow (4096 * slot) (4096 * slot + 4096) _ _ now.seen before.seen (omega arith) (omega arith)
      (agree-same (4096 * slot) (4096 * slot + 4096) first last before now apart s)) ∙ c.numbered;
}

pub closed-stays : (slot first last : ℕ) (before now : State) → Apart (4096 * slot) (4096 * slot + 512) first last
    → SameBut first last before now → IsKnownClosed slot before → IsKnownClosed slot now
closed-stays slot first last before now apart s c = record {
  clean = clean-same (4096 * slot) (4096 * slot + 512) first last before now apart s c.clean;
  closed = λ opened. c.closed (sym (s.seen (4096 * slot) (apart (4096 * slot) (omega arith) (omega arith))) ∙ opened);
}

pub number-stays : (slot first last : ℕ) (before now : State) → Apart (4096 * slot + 512) (4096 * slot + 4096) first last
    → SameBut first last before now → commit_number slot now.seen ≡ commit_number slot before.seen
number-stays slot first last before now apart s =
    number-agree slot now.seen before.seen (agree-same (4096 * slot + 512) (4096 * slot + 4096) first last before now apart s)

pub body-stays : (slot first last : ℕ) (before now : State) → Apart (4096 * slot + 512) (4096 * slot + 4096) first last
    → SameBut first last before now → body_of slot now.seen ≡ body_of slot before.seen
body-stays slot first last before now apart s =
    body-agree slot now.seen before.seen (agree-same (4096 * slot + 512) (4096 * slot + 4096) first last before now apart s)

pub left-stays : (slot number first last : ℕ) (before now : State) → Apart (4096 * slot + 512) (4096 * slot + 4096) first last
    → SameBut first last before now → IsOlderOrFailed slot number before → IsOlderOrFailed slot number now
left-stays slot number first last before now apart s left =
    let same = number-stays slot first last before now apart s in
    record {
      clean = clean-same (4096 * slot + 512) (4096 * slot + 4096) first last before now apart s left.clean;
      numbered = subst IsCommitNumber (sym same) left.numbered;
      order = subst (λ k. (k < number) ⊎ (k ≡ number + 1)) (sym same) left.order;
    }

-- the slots stand as they stood
pub stands-stays : (target number first last : ℕ) (may_be_open : Bool) (before now : State)
    → Apart (4096 * other target) (4096 * other target + 4096) first last
    → (may_be_open ≡ false → Apart (4096 * target) (4096 * target + 512) first last)
    → (may_be_open ≡ true → Apart (4096 * target + 512) (4096 * target + 4096) first last)
    → SameBut first last before now → Stands target number may_be_open before → Stands target number may_be_open now
stands-stays target number first last may_be_open before now apart gate body s stands = record {
  slot = stands.slot;
  size = omega (arith, stands.size, s.bytes);
  below = stands.below;
  blank = λ none. closed-stays (other target) first last before now (λ offset above below. apart offset above (omega arith)) s (stands.blank none);
  committed = λ some. committed-stays (other target) number first last before now apart s (stands.committed some);
  closed = λ flag. closed-stays target first last before now (gate flag) s (stands.closed flag);
  left = λ flag. left-stays target number first last before now (body flag) s (stands.left flag);
}

-- the committed body of a state is that of the state before, where its slot has not changed
pub committed-before : (target number first last : ℕ) (before now : State) (image : List ℕ)
    → Apart (4096 * other target + 512) (4096 * other target + 4096) first last
    → SameBut first last before now → HasCommitted target number now image → HasCommitted target number before image
committed-before target number first last before now image apart s has = record {
  blank = has.blank;
  committed = λ some. subst (λ body. Stores (other target) number body image) (body-stays (other target) first last before now apart s) (has.committed some);
}

pub failed-before : (target number first last : ℕ) (before now : State) (image : List ℕ)
    → Apart (4096 * target + 512) (4096 * target + 4096) first last
    → SameBut first last before now → HasFailed target number now image → HasFailed target number before image
failed-before target number first last before now image apart s has = record {
  failed = sym (number-stays target first last before now apart s) ∙ has.failed;
  stored = subst (λ body. Stores target (number + 1) body image) (body-stays target first last before now apart s) has.stored;
}

-- a slot that isn't changed keeps its body
pub body-kept : (slot first last : ℕ) (before now : State) → Apart (4096 * slot + 512) (4096 * slot + 4096) first last
    → SameBut first last before now → KeepsBody slot before now
body-kept slot first last before now apart s = record {
  numbered = number-stays slot first last before now apart s;
  holds = body-stays slot first last before now apart s;
}

-- pages stay
pub pages-stay : (but first last : ℕ) (before now : State)
    → ((block : ℕ) → 2 ≤ block → block ≢ but → Apart (4096 * block) (4096 * block + 4096) first last)
    → SameBut first last before now → KeepsPages but before now
pages-stay but first last before now apart s = record {
  seen = λ block behind differs. part-agree (4096 * block) 4096 _ _ now.seen before.seen (omega arith) (omega arith)
      (agree-same (4096 * block) (4096 * block + 4096) first last before now (apart block behind differs) s);
  durable = λ block behind differs clean. clean-same (4096 * block) (4096 * block + 4096) first last before now (apart block behind differs) s clean;
}

-- a moment of `begin`
pub begins-now : (target number : ℕ) (before now : State) → Stands target number true before
    → SameBut (4096 * target) (4096 * target + 512) before now → Begins target number true before now
begins-now target number before now stands s =
    let slot = stands.slot in
    let stays : Stands target number true now = stands-stays target number (4096 * target) (4096 * target + 512) true before now
    (λ offset above below first. omega arith) (λ flag. absurd (false≢true (sym flag))) (λ flag offset above below first. omega arith) s stands in
    record {
      images = λ image is. elim (image-either target number true now image stays is) [
        | inl committed ↦ inl (committed-before target number (4096 * target) (4096 * target + 512) before now image (λ offset above below first. omega arith) s committed)
        | inr failed ↦ inr (refl, failed-before target number (4096 * target) (4096 * target + 512) before now image (λ offset above below first. omega arith) s failed.1)
      ];
      same = s;
      kept = body-kept (other target) (4096 * target) (4096 * target + 512) before now (λ offset above below first. omega arith) s;
      failed = body-kept target (4096 * target) (4096 * target + 512) before now (λ offset above below first. omega arith) s;
      pages = pages-stay target (4096 * target) (4096 * target + 512) before now (λ block behind differs offset above below first. omega arith) s;
      stands = stays;
    }

-- no call
pub begins-none : (target number : ℕ) (may_be_open : Bool) (before : State) → Stands target number may_be_open before
    → Begins target number may_be_open before before
begins-none target number may_be_open before stands = record {
  images = λ image is. image-either target number may_be_open before image stands is;
  same = same_but-none (4096 * target) (4096 * target + 512) before;
  kept = record { numbered = refl; holds = refl };
  failed = record { numbered = refl; holds = refl };
  pages = record { seen = λ block behind differs. refl; durable = λ block behind differs clean. clean };
  stands = stands;
}

-- a moment of `put_page`
pub puts-now : (target number block : ℕ) (before now : State) → 2 ≤ block → Stands target number false before
    → SameBut (4096 * block) (4096 * block + 4096) before now → PutsPage target number block before now
puts-now target number block before now behind stands s =
    let slot = stands.slot in
    let stays : Stands target number false now = stands-stays target number (4096 * block) (4096 * block + 4096) false before now
    (λ offset above below first. omega arith) (λ flag offset above below first. omega arith) (λ flag. absurd (false≢true flag)) s stands in
    record {
      images = λ image is. committed-before target number (4096 * block) (4096 * block + 4096) before now image (λ offset above below first. omega arith) s
          (image-committed target number now image stays is);
      same = s;
      kept = body-kept (other target) (4096 * block) (4096 * block + 4096) before now (λ offset above below first. omega arith) s;
      pages = pages-stay block (4096 * block) (4096 * block + 4096) before now (λ page past differs offset above below first. omega (arith, differs)) s;
      stands = stays;
    }
