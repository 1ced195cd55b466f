-- Bytes written over others, index by index.
use Rattle.std.proofs.Common.{◌≡◌, ℕ, ◌+◌, ◌-◌, ◌<◌, ◌≤◌, List, ◌++◌, length, get_or, take, drop, ap, ◌∙◌, length-append, arith, inl, inr}
use Rattle.std.proofs.lemmas.List.{length-drop, length-take-le, get_or-take, get_or-drop, get_or_append_left, get_or-append_right}
use Rattle.std.proofs.lemmas.Bool.{cases_lt}
use Rattle.era_base.specs.Bytes.{splice}

pub splice-length : (old : List ℕ) (at : ℕ) (bytes : List ℕ) → at + length bytes ≤ length old → length (splice old at bytes) ≡ length old
splice-length old at bytes fits =
    simp (length-append, length-drop) (let front : length (take at old) ≡ at = length-take-le at old (omega arith) in omega (arith, front))

-- a byte before or behind what was written is the old one
pub splice-outside : (old : List ℕ) (at : ℕ) (bytes : List ℕ) (k d : ℕ) → at + length bytes ≤ length old → (at ≤ k → at + length bytes ≤ k) → get_or (splice old at bytes) k d ≡ get_or old k d
splice-outside old at bytes k d fits outside = elim (cases_lt k at) [
  | inl before ↦
      let front : length (take at old) ≡ at = length-take-le at old (omega arith) in
      get_or_append_left (take at old ++ bytes) (drop (at + length bytes) old) d k (simp length-append (omega (arith, front)))
      ∙ get_or_append_left (take at old) bytes d k (omega (arith, front))
      ∙ get_or-take at old k d before
  | inr behind ↦
      let front : length (take at old) ≡ at = length-take-le at old (omega arith) in
      let size : length (take at old ++ bytes) ≡ at + length bytes = length-append (take at old) bytes ∙ ap (λ n. n + length bytes) front in
      get_or-append_right (take at old ++ bytes) (drop (at + length bytes) old) (at + length bytes) k d size (outside behind)
      ∙ get_or-drop (at + length bytes) old (k - (at + length bytes)) d
      ∙ ap (λ n. get_or old n d) (let far = outside behind in omega arith)
]

-- a byte that was written is there
pub splice-inside : (old : List ℕ) (at : ℕ) (bytes : List ℕ) (k d : ℕ) → at + length bytes ≤ length old → k < length bytes → get_or (splice old at bytes) (at + k) d ≡ get_or bytes k d
splice-inside old at bytes k d fits here =
    let front : length (take at old) ≡ at = length-take-le at old (omega arith) in
    get_or_append_left (take at old ++ bytes) (drop (at + length bytes) old) d (at + k) (simp length-append (omega (arith, front)))
    ∙ get_or-append_right (take at old) bytes at (at + k) d front (omega arith)
    ∙ ap (λ n. get_or bytes n d) (let same : at + k - at ≡ k = omega arith in same)
