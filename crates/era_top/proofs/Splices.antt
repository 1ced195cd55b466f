-- Bytes written over others, index by index and block by block.
use Rattle.std.proofs.Common.{◌≡◌, ℕ, ◌+◌, ◌-◌, ◌<◌, ◌≤◌, List, ◌++◌, length, get_or, take, drop, min, ap, sym, ◌∙◌, length-append, arith}
use Rattle.std.proofs.lemmas.List.{length-take, length-drop, length-take-le, get_or-take, get_or-drop, get_or_append_left, get_or-append_right, get_or_past, same_lists}
use Rattle.std.proofs.Common.{inl, inr}
use Rattle.std.proofs.lemmas.Bool.{cases_lt}
use Rattle.era_base.specs.Bytes.{splice, part}

pub splice-length : (old : List ℕ) (at : ℕ) (bytes : List ℕ) → at + length bytes ≤ length old → length (splice old at bytes) ≡ length old
splice-length old at bytes fits =
    simp (length-append, length-drop) (let front : length (take at old) ≡ at = length-take-le at old (omega arith) in omega (arith, front))

-- a byte before or behind what was written is the old one
pub splice-outside : (old : List ℕ) (at : ℕ) (bytes : List ℕ) (k d : ℕ) → at + length bytes ≤ length old → (at ≤ k → at + length bytes ≤ k) → get_or (splice old at bytes) k d ≡ get_or old k d
splice-outside old at bytes k d fits outside = elim (cases_lt k at) [
  | inl before ↦
      let front : length (take at old) ≡ at = length-take-le at old (omega arith) in
      get_or_append_left (take at old ++ bytes) (drop (at + length bytes) old) d k (simp length-append (omega (arith, front)))
      ∙ get_or_append_left (take at old) bytes d k (omega (arith, front))
      ∙ get_or-take at old k d before
  | inr behind ↦
      let front : length (take at old) ≡ at = length-take-le at old (omega arith) in
      let size : length (take at old ++ bytes) ≡ at + length bytes = length-append (take at old) bytes ∙ ap (λ n. n + length bytes) front in
      get_or-append_right (take at old ++ bytes) (drop (at + length bytes) old) (at + length bytes) k d size (outside behind)
      ∙ get_or-drop (at + length bytes) old (k - (at + length bytes)) d
      ∙ ap (λ n. get_or old n d) (let far = outside behind in omega arith)
]

-- a byte that was written is there
pub splice-inside : (old : List ℕ) (at : ℕ) (bytes : List ℕ) (k d : ℕ) → at + length bytes ≤ length old → k < length bytes → get_or (splice old at bytes) (at + k) d ≡ get_or bytes k d
splice-inside old at bytes k d fits here =
    let front : length (take at old) ≡ at = length-take-le at old (omega arith) in
    get_or_append_left (take at old ++ bytes) (drop (at + length bytes) old) d (at + k) (simp length-append (omega (arith, front)))
    ∙ get_or-append_right (take at old) bytes at (at + k) d front (omega arith)
    ∙ ap (λ n. get_or bytes n d) (let same : at + k - at ≡ k = omega arith in same)

pub part-length : (lo size : ℕ) (xs ys : List ℕ) → length xs ≡ length ys → length (part lo size xs) ≡ length (part lo size ys)
part-length lo size xs ys same = simp (length-take, length-drop) (ap (λ n. min size (n - lo)) same)

part-index : (lo size : ℕ) (xs : List ℕ) (k d : ℕ) → k < size → get_or (part lo size xs) k d ≡ get_or xs (lo + k) d
part-index lo size xs k d within = get_or-take size (drop lo xs) k d within ∙ get_or-drop lo xs k d

part-within : (lo size : ℕ) (xs : List ℕ) (k : ℕ) → k < length (part lo size xs) → k < size
part-within lo size xs k h = let h : k < min size (length xs - lo) = simp (length-take, length-drop) at h in omega arith

-- a part that ends before what was written, or begins behind it, is as it was
pub part-other : (lo size : ℕ) (old : List ℕ) (at : ℕ) (bytes : List ℕ) → at + length bytes ≤ length old → (at < lo + size → at + length bytes ≤ lo) → part lo size (splice old at bytes) ≡ part lo size old
part-other lo size old at bytes fits apart =
    same_lists _ _ (part-length lo size (splice old at bytes) old (splice-length old at bytes fits))
    (λ k d h.
    let within = part-within lo size (splice old at bytes) k h in
    part-index lo size (splice old at bytes) k d within
    ∙ splice-outside old at bytes (lo + k) d fits (λ behind. omega (arith, apart))
    ∙ sym (part-index lo size old k d within))

-- where a part of a list holds all that was written
record Within (lo size first : ℕ) (old : List ℕ) (at : ℕ) (bytes : List ℕ) : Type 0 where
  pub begins : at ≡ lo + first
  pub fits : at + length bytes ≤ length old
  pub inside : first + length bytes ≤ size

part-room : (lo size first : ℕ) (old : List ℕ) (at : ℕ) (bytes : List ℕ) → Within lo size first old at bytes → first + length bytes ≤ length (part lo size old)
part-room lo size first old at bytes w = simp (length-take, length-drop) (omega (arith, w.begins, w.fits, w.inside))

index-outside : (lo size first : ℕ) (old : List ℕ) (at : ℕ) (bytes : List ℕ) → Within lo size first old at bytes → (k d : ℕ) → k < size → (first ≤ k → first + length bytes ≤ k) → get_or (splice old at bytes) (lo + k) d ≡ get_or (splice (part lo size old) first bytes) k d
index-outside lo size first old at bytes w k d inside apart =
    splice-outside old at bytes (lo + k) d w.fits (λ behind. let e = w.begins in let b : first ≤ k = omega arith in let far = apart b in omega arith)
    ∙ sym (part-index lo size old k d inside)
    ∙ sym (splice-outside (part lo size old) first bytes k d (part-room lo size first old at bytes w) apart)

index-among : (lo size first : ℕ) (old : List ℕ) (at : ℕ) (bytes : List ℕ) → Within lo size first old at bytes → (k d : ℕ) → first ≤ k → k < first + length bytes → get_or (splice old at bytes) (lo + k) d ≡ get_or (splice (part lo size old) first bytes) k d
index-among lo size first old at bytes w k d behind before =
    ap (λ n. get_or (splice old at bytes) n d) (let e = w.begins in let f : lo + k ≡ at + (k - first) = omega arith in f)
    ∙ splice-inside old at bytes (k - first) d w.fits (omega arith)
    ∙ sym (splice-inside (part lo size old) first bytes (k - first) d (part-room lo size first old at bytes w) (omega arith))
    ∙ ap (λ n. get_or (splice (part lo size old) first bytes) n d) (let f : first + (k - first) ≡ k = omega arith in f)

index-same : (lo size first : ℕ) (old : List ℕ) (at : ℕ) (bytes : List ℕ) → Within lo size first old at bytes → (k d : ℕ) → k < size → get_or (splice old at bytes) (lo + k) d ≡ get_or (splice (part lo size old) first bytes) k d
index-same lo size first old at bytes w k d inside = elim (cases_lt k first) [
  | inl before ↦ index-outside lo size first old at bytes w k d inside (λ behind. absurd (omega arith))
  | inr behind ↦ elim (cases_lt k (first + length bytes)) [
    | inl before ↦ index-among lo size first old at bytes w k d behind before
    | inr after ↦ index-outside lo size first old at bytes w k d inside (λ _. after)
  ]
]

-- a part within which all was written is the old part with the same bytes written over it
pub part-same : (lo size first : ℕ) (old : List ℕ) (at : ℕ) (bytes : List ℕ) → at ≡ lo + first → at + length bytes ≤ length old → first + length bytes ≤ size → part lo size (splice old at bytes) ≡ splice (part lo size old) first bytes
part-same lo size first old at bytes begins fits inside =
    let w : Within lo size first old at bytes = record { begins = begins; fits = fits; inside = inside } in
    same_lists _ _ (part-length lo size (splice old at bytes) old (splice-length old at bytes fits) ∙ sym (splice-length (part lo size old) first bytes (part-room lo size first old at bytes w)))
    (λ k d h.
    let within = part-within lo size (splice old at bytes) k h in
    part-index lo size (splice old at bytes) k d within ∙ index-same lo size first old at bytes w k d within)

-- the parts of two states that agree outside of a range, index by index
pub part-agrees : (lo size from to : ℕ) (old new : List ℕ) (k : ℕ) → length new ≡ length old
    → ((offset : ℕ) → (from ≤ offset → to ≤ offset) → get_or new offset 0 ≡ get_or old offset 0)
    → (from ≤ lo + k → to ≤ lo + k)
    → get_or (part lo size new) k 0 ≡ get_or (part lo size old) k 0
part-agrees lo size from to old new k same agrees outside = elim (cases_lt k size) [
  | inl within ↦ part-index lo size new k 0 within ∙ agrees (lo + k) outside ∙ sym (part-index lo size old k 0 within)
  | inr past ↦
      get_or_past (part lo size new) k 0 (simp (length-take, length-drop) (omega arith))
      ∙ sym (get_or_past (part lo size old) k 0 (simp (length-take, length-drop) (omega arith)))
]

-- behind a part there is nothing
pub part-past : (lo size : ℕ) (old new : List ℕ) (k : ℕ) → size ≤ k → get_or (part lo size new) k 0 ≡ get_or (part lo size old) k 0
part-past lo size old new k past =
    get_or_past (part lo size new) k 0 (simp (length-take, length-drop) (omega arith))
    ∙ sym (get_or_past (part lo size old) k 0 (simp (length-take, length-drop) (omega arith)))
