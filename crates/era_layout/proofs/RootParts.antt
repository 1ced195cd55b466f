-- The parts of a root's bytes, one behind the other, and the zeros behind them.
use Rattle.std.proofs.Common.{◌≡◌, ℕ, suc, ◌+◌, ◌-◌, ◌*◌, ◌≤◌, List, [], ◌∷◌, ◌++◌, length, replicate, refl, sym, ap, ◌∙◌, append_assoc, length-append, arith}
use Rattle.std.proofs.lemmas.Nat.{mul-le}
use Rattle.era_base.specs.Geometry.{array_pages_of, bit_pages_of}
use Rattle.era_layout.specs.Numbers.{padded}
use Rattle.era_layout.specs.Damage.{AreZeros, set_size, archive_offset}

-- eleven parts and what is behind them, joined from the right or as a root has them
pub regrouped : (m v b s e h c z a w k o : List ℕ) → m ++ (v ++ (b ++ (s ++ (e ++ (h ++ (c ++ (z ++ (a ++ (w ++ (k ++ o)))))))))) ≡ (m ++ v ++ b ++ s ++ e ++ h ++ c ++ z) ++ (a ++ w ++ k) ++ o
regrouped m v b s e h c z a w k o = simp append_assoc

-- the parts of a root follow one another
pub chained : (m v b s e h c z a w k o b0 b1 b2 b3 b4 b5 b6 b7 b8 b9 b10 : List ℕ)
    → b0 ≡ m ++ b1 → b1 ≡ v ++ b2 → b2 ≡ b ++ b3 → b3 ≡ s ++ b4 → b4 ≡ e ++ b5 → b5 ≡ h ++ b6 → b6 ≡ c ++ b7 → b7 ≡ z ++ b8
    → b8 ≡ a ++ b9 → b9 ≡ w ++ b10 → b10 ≡ k ++ o
    → b0 ≡ (m ++ v ++ b ++ s ++ e ++ h ++ c ++ z) ++ (a ++ w ++ k) ++ o
chained m v b s e h c z a w k o b0 b1 b2 b3 b4 b5 b6 b7 b8 b9 b10 e0 e1 e2 e3 e4 e5 e6 e7 e8 e9 e10 = cc (regrouped m v b s e h c z a w k o)

-- zeros are as many copies of 0
pub zeros_are : (bytes : List ℕ) → AreZeros bytes → bytes ≡ replicate (length bytes) 0
zeros_are [] zeros = refl
zeros_are (byte ∷ bytes) zeros =
    let first : byte ≡ 0 = zeros 0 (omega arith) in
    let others : bytes ≡ replicate (length bytes) 0 = zeros_are bytes (λ index lt. zeros (suc index) (omega arith)) in
    ap (λ (b : ℕ). b ∷ bytes) first ∙ ap (λ (bs : List ℕ). 0 ∷ bs) others

-- what has zeros behind a front is the padded front
pub padded_is : (bytes front rest : List ℕ) (size : ℕ) → length bytes ≡ size → bytes ≡ front ++ rest → AreZeros rest → padded size front ≡ bytes
padded_is bytes front rest size len is zeros =
    let left : size - length front ≡ length rest = omega (arith, ap length is, length-append front rest) in
    ap (λ (n : ℕ). front ++ replicate n 0) left ∙ ap (λ (r : List ℕ). front ++ r) (sym (zeros_are rest zeros)) ∙ sym is

-- how many pages the lists of a root have, and where they end
pub array_is_small : (blocks : ℕ) → blocks ≤ 65536 → array_pages_of blocks ≤ 64
array_is_small blocks le = omega arith

pub width_is_small : (blocks : ℕ) → blocks ≤ 65536 → bit_pages_of blocks ≤ 2
width_is_small blocks le = omega arith

pub lists_fit : (array width count : ℕ) → array ≤ 64 → width ≤ 2 → count ≤ 16 → archive_offset array width + count * set_size width ≤ 3576
lists_fit array width count a w c = omega (arith, mul-le count (set_size width) 16 12 c (omega arith))
