-- Pages that are numbered from a first number on.
use Rattle.std.proofs.Common.{◌≡◌, ℕ, zero, suc, ◌+◌, List, [], ◌∷◌, ◌++◌, ap, arith}
use Rattle.era_layout.specs.Root.{numbers_from}

-- one number more
pub numbers_more : (first count : ℕ) → numbers_from first (count + 1) ≡ numbers_from first count ++ (first + count) ∷ []
numbers_more first zero =
    let here : first ≡ first + 0 = omega arith in
    ap (λ (number : ℕ). number ∷ []) here
numbers_more first (suc count) =
    let next : first + 1 + count ≡ first + suc count = omega arith in
    let more : suc count + 1 ≡ suc (count + 1) = omega arith in
    let others : numbers_from (first + 1) (count + 1) ≡ numbers_from (first + 1) count ++ (first + suc count) ∷ [] = rw next at (numbers_more (first + 1) count) in
    rw more (ap (λ (numbers : List ℕ). first ∷ numbers) others)
