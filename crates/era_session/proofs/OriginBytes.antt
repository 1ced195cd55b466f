-- The origin's bytes as its parts read one after another: block by block they are those of the parts.
use Rattle.std.proofs.Common.{◌≡◌, ℕ, zero, suc, ◌+◌, ◌-◌, ◌*◌, ◌<◌, ◌≤◌, List, [], ◌∷◌, ◌++◌, length, take, drop, Option, Some, slice_get, refl, sym, ap, ◌∙◌, arith, inl, inr}
use Rattle.std.specs.List.{concat}
use Rattle.std.specs.Prelude.{unwrap_or}
use Rattle.std.proofs.Math.Nat.{mul-le-mul_right}
use Rattle.std.proofs.Math.Seq.{drop-append-add}
use Rattle.std.proofs.lemmas.Bool.{cases_lt}
use Rattle.std.proofs.lemmas.Grind.{div_ceil_times}
use Rattle.std.proofs.lemmas.List.{append-nil, drop-append-le, drop-drop, length-drop, take-append-le}
use Rattle.std.proofs.lemmas.Option.{slice_get_within}
use Rattle.era_base.specs.Geometry.{blocks_of}
use Rattle.era_model.specs.Writes.{block_bytes}

-- Each list but the last has so many elements.
abbrev pub AreWide : ℕ → List (List ℕ) → Type 0
AreWide width lists = (j : ℕ) (one : List ℕ) → j + 1 < length lists → slice_get lists j ≡ Some one → length one ≡ width

-- behind the lists before it stands a list, and what is behind it
pub record StandsAt (width k : ℕ) (lists : List (List ℕ)) (own : List ℕ) : Type 0 where
  pub rest : List ℕ
  pub at : drop (k * width) (concat lists) ≡ own ++ rest
  pub last : length lists ≡ k + 1 → rest ≡ []

pub stands-at : (width k : ℕ) (lists : List (List ℕ)) (own : List ℕ) → AreWide width lists → slice_get lists k ≡ Some own → StandsAt width k lists own
stands-at width k [] own wide found = absurd (let low = slice_get_within [] k own found in omega (arith, low))
stands-at width zero (one ∷ lists) own wide found = record {
  rest = concat lists;
  at = (let none : 0 * width ≡ 0 = omega arith in ap (λ n. drop n (one ++ concat lists)) none)
      ∙ ap (λ (l : List ℕ). l ++ concat lists) (ap (λ (o : Option (List ℕ)). unwrap_or o []) found);
  last = λ end. none lists (omega (arith, end));
}
  where
    none : (lists : List (List ℕ)) → length lists ≡ 0 → concat lists ≡ []
    none [] end = refl
    none (one ∷ lists) end = absurd (omega (arith, end))
stands-at width (suc k) (one ∷ lists) own wide found =
    let low : k < length lists = slice_get_within lists k own found in
    let size : length one ≡ width = wide 0 one (omega (arith, low)) refl in
    let below = stands-at width k lists own (λ j each more at. wide (suc j) each (omega (arith, more)) at) found in
    let sum : suc k * width ≡ length one + k * width = omega (arith, size) in
    record {
      rest = below.rest;
      at = ap (λ n. drop n (one ++ concat lists)) sum ∙ drop-append-add one (concat lists) (k * width) ∙ below.at;
      last = λ end. below.last (omega (arith, end));
    }

-- a piece of what stands at the front
pub piece-front : (from count : ℕ) (own rest : List ℕ) → from + count ≤ length own → take count (drop from (own ++ rest)) ≡ take count (drop from own)
piece-front from count own rest within =
    let size = length-drop from own in
    ap (take count) (drop-append-le from own rest (omega (arith, within))) ∙ take-append-le count (drop from own) rest (omega (arith, size, within))

-- a block of a part whose blocks begin with those before it, each of so many sectors
pub block-at : (size each k block : ℕ) (lists : List (List ℕ)) (own : List ℕ) → AreWide (each * (size * 512)) lists → slice_get lists k ≡ Some own
    → k * each ≤ block → (k + 1 < length lists → block < k * each + each)
    → block_bytes size (concat lists) block ≡ block_bytes size own (block - k * each)
block-at size each k block lists own wide found low high =
    let stands = stands-at (each * (size * 512)) k lists own wide found in
    let within = slice_get_within lists k own found in
    let j = block - k * each in
    let sum : block * size * 512 ≡ k * (each * (size * 512)) + j * size * 512 = split size each k block low in
    let moved : block_bytes size (concat lists) block ≡ take (size * 512) (drop (j * size * 512) (own ++ stands.rest))
    = ap (λ n. take (size * 512) (drop n (concat lists))) sum
    ∙ ap (take (size * 512)) (sym (drop-drop (j * size * 512) (k * (each * (size * 512))) (concat lists)))
    ∙ ap (λ (l : List ℕ). take (size * 512) (drop (j * size * 512) l)) stands.at in
    elim (cases_lt (k + 1) (length lists)) [
      | inl more ↦
          let full : length own ≡ each * (size * 512) = wide k own more found in
          let some = high more in
          let room : (j + 1) * (size * 512) ≤ each * (size * 512) = mul-le-mul_right (size * 512) (omega (arith, low, some)) in
          let flat : j * size * 512 + size * 512 ≡ (j + 1) * (size * 512) = omega arith in
          moved ∙ piece-front (j * size * 512) (size * 512) own stands.rest (omega (arith, full, room, flat))
      | inr end ↦
          let none : stands.rest ≡ [] = stands.last (omega (arith, end, within)) in
          moved ∙ ap (λ (l : List ℕ). take (size * 512) (drop (j * size * 512) (own ++ l))) none
          ∙ ap (λ (l : List ℕ). take (size * 512) (drop (j * size * 512) l)) (append-nil own)
    ]
  where
    split : (size each k block : ℕ) → k * each ≤ block → block * size * 512 ≡ k * (each * (size * 512)) + (block - k * each) * size * 512
    split size each k block low =
        let rest : block ≡ k * each + (block - k * each) = omega (arith, low) in
        ap (λ n. n * size * 512) rest ∙ omega arith

-- the blocks before one that is there are whole
pub whole-before : (sectors size blocks : ℕ) → 0 < size → blocks < blocks_of sectors size → blocks * size ≤ sectors
whole-before sectors size blocks some below =
    let bound = (div_ceil_times sectors size some).1 in
    let more : (blocks + 1) * size ≤ blocks_of sectors size * size = mul-le-mul_right size (omega (arith, below)) in
    omega (arith, bound, more)
