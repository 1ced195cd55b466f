-- A page that is put, and a page that is read.
use Rattle.std.proofs.Common.{◌≡◌, ℕ, ◌+◌, ◌*◌, ◌≤◌, Bool, false, List, length, sym, ap, ◌∙◌, subst, arith}
use Rattle.era_base.specs.Bytes.{part, splice}
use Rattle.era_base.specs.CrashModel.{State, History, Stepped, SameBut, Went, IsWhole}
use Rattle.era_slots.specs.Slot.{page_of}
use Rattle.era_slots.specs.Standing.{Stands}
use Rattle.era_slots.specs.Promise.{PutsPage}
use Rattle.era_base.proofs.Moments.{went-step}
use Rattle.era_slots.proofs.Changes.{same_but-none, same_but-wider}
use Rattle.era_slots.proofs.Bytes.{part-splice}
use Rattle.era_slots.proofs.Stays.{puts-now}

puts-of : (target number block first count : ℕ) (may_be_open : Bool) (before now : State) → may_be_open ≡ false → first ≡ block * 8 → count ≡ 4096
    → 2 ≤ block → Stands target number may_be_open before → SameBut (first * 512) (first * 512 + count) before now → PutsPage target number block before now
puts-of target number block first count may_be_open before now begun starts size behind stands s =
    puts-now target number block before now behind (subst (λ flag. Stands target number flag before) begun stands)
    (same_but-wider (first * 512) (first * 512 + count) (4096 * block) (4096 * block + 4096) before now (omega arith) (omega arith) s)

pub went-put : (target number block first count : ℕ) (may_be_open : Bool) (old new : History) → may_be_open ≡ false → first ≡ block * 8 → count ≡ 4096
    → 2 ≤ block → Stands target number may_be_open old.now → Stepped old new → SameBut (first * 512) (first * 512 + count) old.now new.now
    → Went (PutsPage target number block) old new
went-put target number block first count may_be_open old new begun starts size behind stands time s =
    went-step (PutsPage target number block) old new time
    (puts-of target number block first count may_be_open old.now old.now begun starts size behind stands (same_but-none (first * 512) (first * 512 + count) old.now))
    (puts-of target number block first count may_be_open old.now new.now begun starts size behind stands s)

pub stands-put : (target number block first count : ℕ) (may_be_open : Bool) (before now : State) → may_be_open ≡ false → first ≡ block * 8 → count ≡ 4096
    → 2 ≤ block → Stands target number may_be_open before → SameBut (first * 512) (first * 512 + count) before now → Stands target number may_be_open now
stands-put target number block first count may_be_open before now begun starts size behind stands s =
    subst (λ flag. Stands target number flag now) (sym begun)
    (puts-of target number block first count may_be_open before now begun starts size behind stands s).stands

pub page-put : (block first sectors : ℕ) (bytes : List ℕ) (before now : State) → first ≡ block * 8 → length bytes ≡ 4096 → block * 8 + 8 ≤ sectors
    → IsWhole sectors before → now.seen ≡ splice before.seen (first * 512) bytes → page_of block now.seen ≡ bytes
page-put block first sectors bytes before now starts size fits whole wrote =
    ap (λ (k : ℕ). part k 4096 now.seen) (let e : 4096 * block ≡ first * 512 = omega arith in e)
    ∙ ap (λ (k : ℕ). part (first * 512) k now.seen) (sym size)
    ∙ ap (part (first * 512) (length bytes)) wrote
    ∙ part-splice before.seen bytes (first * 512) (omega (arith, whole.bytes))

pub page-read : (block first : ℕ) (buffer old : List ℕ) (before : State) → first ≡ block * 8 → length old ≡ 4096
    → buffer ≡ part (first * 512) (length old) before.seen → buffer ≡ page_of block before.seen
page-read block first buffer old before starts size read =
    read
    ∙ ap (λ (k : ℕ). part k (length old) before.seen) (let e : first * 512 ≡ 4096 * block = omega arith in e)
    ∙ ap (λ (k : ℕ). part (4096 * block) k before.seen) size
