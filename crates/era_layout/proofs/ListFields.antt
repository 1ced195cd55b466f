-- Lists of numbers and of archived sets in bytes, one element at a time.
use Rattle.std.proofs.Common.{◌≡◌, ℕ, zero, suc, ◌+◌, ◌*◌, ◌<◌, List, [], ◌∷◌, ◌++◌, length, refl, sym, ap, subst, arith}
use Rattle.era_layout.specs.declared.archive.Archived.{Archived}
use Rattle.era_layout.specs.Numbers.{u32_at, u32s_at}
use Rattle.era_layout.specs.Root.{EraOrder}
use Rattle.era_layout.specs.Damage.{set_size, sets_at}

pub length-u32s_at : (bytes : List ℕ) (offset count : ℕ) → length (u32s_at bytes offset count) ≡ count
length-u32s_at bytes offset zero = refl
length-u32s_at bytes offset (suc count) = ap suc (length-u32s_at bytes (offset + 4) count)

-- numbers, and those behind them
pub u32s_at-append : (bytes : List ℕ) (offset count more : ℕ) → u32s_at bytes offset (count + more) ≡ u32s_at bytes offset count ++ u32s_at bytes (offset + 4 * count) more
u32s_at-append bytes offset zero more =
    let none : zero + more ≡ more = omega arith in
    let here : offset + 4 * zero ≡ offset = omega arith in
    rw (none, here) refl
u32s_at-append bytes offset (suc count) more =
    let next : suc count + more ≡ suc (count + more) = omega arith in
    let here : offset + 4 * suc count ≡ offset + 4 + 4 * count = omega arith in
    rw (next, here) (ap (λ (ns : List ℕ). u32_at bytes offset ∷ ns) (u32s_at-append bytes (offset + 4) count more))

-- one number more
pub u32s_at_more : (bytes : List ℕ) (offset count : ℕ) → u32s_at bytes offset (count + 1) ≡ u32s_at bytes offset count ++ u32_at bytes (offset + 4 * count) ∷ []
u32s_at_more bytes offset count = u32s_at-append bytes offset count 1

-- the first of some archived sets, and the others
pub sets_at_first : (bytes : List ℕ) (width offset count left : ℕ) → count ≡ suc left → sets_at bytes width offset count ≡ record { era = u32_at bytes offset; pages = u32s_at bytes (offset + 4) width } ∷ sets_at bytes width (offset + set_size width) left
sets_at_first bytes width offset count left is = rw is refl

pub length-sets_at : (bytes : List ℕ) (width offset count : ℕ) → length (sets_at bytes width offset count) ≡ count
length-sets_at bytes width offset zero = refl
length-sets_at bytes width offset (suc count) = ap suc (length-sets_at bytes width (offset + set_size width) count)

-- the eras of sets are in order where that of the first is, and the others are behind it
pub record FirstInOrder (bytes : List ℕ) (width offset left floor era : ℕ) : Type 0 where
  pub above : floor < u32_at bytes offset
  pub below : u32_at bytes offset < era
  pub others : EraOrder (u32_at bytes offset) era (sets_at bytes width (offset + set_size width) left)

pub order_first : (bytes : List ℕ) (width offset count left floor era : ℕ) → count ≡ suc left → EraOrder floor era (sets_at bytes width offset count) → FirstInOrder bytes width offset left floor era
order_first bytes width offset count left floor era is order =
    let o = subst (λ (sets : List Archived). EraOrder floor era sets) (sets_at_first bytes width offset count left is) order in
    record { above = o.0; below = o.1; others = o.2 }

pub order_whole : (bytes : List ℕ) (width offset count left floor era : ℕ) → count ≡ suc left → FirstInOrder bytes width offset left floor era → EraOrder floor era (sets_at bytes width offset count)
order_whole bytes width offset count left floor era is first =
    subst (λ (sets : List Archived). EraOrder floor era sets) (sym (sets_at_first bytes width offset count left is)) (first.above, first.below, first.others)
