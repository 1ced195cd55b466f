-- Puts of pages into several blocks, one after another.
use Rattle.std.proofs.Common.{◌≢◌, ℕ, zero, suc, ◌<◌, false, List, [], ◌∷◌, length, get_or, refl, ◌∙◌, arith}
use Rattle.std.specs.List.{AllByRecursion}
use Rattle.era_base.specs.CrashModel.{State, History, Went}
use Rattle.era_slots.specs.Standing.{Stands}
use Rattle.era_slots.specs.Promise.{PutsPage}
use Rattle.era_meta.specs.Putting.{IsNone, PutsAmong}
use Rattle.era_base.proofs.Moments.{went-join}

pub none-at : (blocks : List ℕ) (block index : ℕ) → index < length blocks → IsNone blocks block → block ≢ get_or blocks index 0
none-at [] block index lt none same = omega arith
none-at (first ∷ blocks) block zero lt none same = none.0 same
none-at (first ∷ blocks) block (suc index) lt none same = none-at blocks block index (omega arith) none.1 same

pub all-at : (P : ℕ → Type 0) (xs : List ℕ) (index : ℕ) → index < length xs → AllByRecursion P xs → P (get_or xs index 0)
all-at P [] index lt all = absurd (omega arith)
all-at P (x ∷ xs) zero lt all = all.0
all-at P (x ∷ xs) (suc index) lt all = all-at P xs index (omega arith) all.1

pub put-among : (blocks : List ℕ) (target number index : ℕ) (before now : State) → index < length blocks
    → PutsPage target number (get_or blocks index 0) before now → PutsAmong blocks target number before now
put-among blocks target number index before now lt put = record {
  size = put.same.bytes;
  kept = put.kept;
  pages = record {
    seen = λ block behind none. put.pages.seen block behind (none-at blocks block index lt none);
    durable = λ block behind none. put.pages.durable block behind (none-at blocks block index lt none);
  };
  stands = put.stands;
}

pub among-none : (blocks : List ℕ) (target number : ℕ) (now : State) → Stands target number false now → PutsAmong blocks target number now now
among-none blocks target number now stands = record {
  size = refl;
  kept = record { numbered = refl; holds = refl };
  pages = record { seen = λ block behind none. refl; durable = λ block behind none clean. clean };
  stands = stands;
}

pub among-then : (blocks : List ℕ) (target number : ℕ) (before mid now : State) → PutsAmong blocks target number before mid
    → PutsAmong blocks target number mid now → PutsAmong blocks target number before now
among-then blocks target number before mid now one two = record {
  size = two.size ∙ one.size;
  kept = record { numbered = two.kept.numbered ∙ one.kept.numbered; holds = two.kept.holds ∙ one.kept.holds };
  pages = record {
    seen = λ block behind none. two.pages.seen block behind none ∙ one.pages.seen block behind none;
    durable = λ block behind none clean. two.pages.durable block behind none (one.pages.durable block behind none clean);
  };
  stands = two.stands;
}

-- puts, and one more
pub went-put : (blocks : List ℕ) (target number index : ℕ) (old mid new : History) → index < length blocks
    → Went (PutsAmong blocks target number) old mid → Went (PutsPage target number (get_or blocks index 0)) mid new
    → Went (PutsAmong blocks target number) old new
went-put blocks target number index old mid new lt one two =
    went-join (PutsAmong blocks target number) (PutsPage target number (get_or blocks index 0)) (PutsAmong blocks target number) old mid new one two
    (λ state among. among)
    (λ state among put. among-then blocks target number old.now mid.now state among (put-among blocks target number index mid.now state lt put))

-- puts, and more puts
pub went-among : (blocks : List ℕ) (target number : ℕ) (old mid new : History)
    → Went (PutsAmong blocks target number) old mid → Went (PutsAmong blocks target number) mid new
    → Went (PutsAmong blocks target number) old new
went-among blocks target number old mid new one two =
    went-join (PutsAmong blocks target number) (PutsAmong blocks target number) (PutsAmong blocks target number) old mid new one two
    (λ state among. among) (λ state first second. among-then blocks target number old.now mid.now state first second)
