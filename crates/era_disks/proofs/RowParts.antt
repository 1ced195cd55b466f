-- Parts of rows, and of the bytes that they read as.
use Rattle.std.proofs.Common.{◌≡◌, ℕ, zero, suc, ◌+◌, ◌-◌, ◌*◌, ◌<◌, ◌≤◌, List, [], ◌∷◌, ◌++◌, length, take, drop, replicate, slice_index_or, arith, refl, sym, ◌∙◌, ap, inl, inr, length-append}
use Rattle.std.proofs.lemmas.Bool.{cases_lt}
use Rattle.std.proofs.lemmas.List.{take_more, append-nil, append_assoc, replicate-append-replicate, take_at, drop_at, drop-drop, get_or_append_left, get_or-append_right, get_or-take, get_or-drop, length-take-le, length-drop}
use borrow.Rule.Slice.PartMut.{put_mid}
use Rattle.era_base.specs.Bytes.{part, splice}
use Rattle.era_disks.specs.Rows.{sector_bytes, bytes_of, length-sector_bytes, sector_bytes-other}

pub bytes_of-append : (xs ys : List (List ℕ)) → bytes_of (xs ++ ys) ≡ bytes_of xs ++ bytes_of ys
bytes_of-append [] ys = refl
bytes_of-append (x ∷ xs) ys =
    ap (λ bytes. sector_bytes x ++ bytes) (bytes_of-append xs ys) ∙ sym (append_assoc (sector_bytes x) (bytes_of xs) (bytes_of ys))

-- past a front of known length
pub take_past : {A : Type 0} (xs ys : List A) (n m : ℕ) → length xs ≡ n → take (n + m) (xs ++ ys) ≡ xs ++ take m ys
take_past [] ys n m e = let is : n + m ≡ m = omega arith in ap (λ k. take k ys) is
take_past (x ∷ xs) ys n m e =
    let is : n + m ≡ suc ((n - 1) + m) = omega arith in
    ap (λ k. take k ((x ∷ xs) ++ ys)) is ∙ ap (λ rest. x ∷ rest) (take_past xs ys (n - 1) m (omega arith))

pub drop_past : {A : Type 0} (xs ys : List A) (n m : ℕ) → length xs ≡ n → drop (n + m) (xs ++ ys) ≡ drop m ys
drop_past xs ys n m e = sym (drop-drop m n (xs ++ ys)) ∙ ap (drop m) (drop_at xs ys n e)

pub take_nil : {A : Type 0} (n : ℕ) → take {A = A} n [] ≡ []
take_nil zero = refl
take_nil (suc n) = refl

pub drop_nil : {A : Type 0} (n : ℕ) → drop {A = A} n [] ≡ []
drop_nil zero = refl
drop_nil (suc n) = refl

pub bytes_of-take : (n : ℕ) (rows : List (List ℕ)) → bytes_of (take n rows) ≡ take (n * 512) (bytes_of rows)
bytes_of-take zero rows = refl
bytes_of-take (suc n) [] = sym (take_nil (suc n * 512))
bytes_of-take (suc n) (row ∷ rows) =
    let is : suc n * 512 ≡ 512 + n * 512 = omega arith in
    ap (λ bytes. sector_bytes row ++ bytes) (bytes_of-take n rows)
    ∙ sym (ap (λ k. take k (bytes_of (row ∷ rows))) is ∙ take_past (sector_bytes row) (bytes_of rows) 512 (n * 512) (length-sector_bytes row))

pub bytes_of-drop : (n : ℕ) (rows : List (List ℕ)) → bytes_of (drop n rows) ≡ drop (n * 512) (bytes_of rows)
bytes_of-drop zero rows = refl
bytes_of-drop (suc n) [] = sym (drop_nil (suc n * 512))
bytes_of-drop (suc n) (row ∷ rows) =
    let is : suc n * 512 ≡ 512 + n * 512 = omega arith in
    bytes_of-drop n rows
    ∙ sym (ap (λ k. drop k (bytes_of (row ∷ rows))) is ∙ drop_past (sector_bytes row) (bytes_of rows) 512 (n * 512) (length-sector_bytes row))

pub bytes_of-part : (first count : ℕ) (rows : List (List ℕ)) → bytes_of (take count (drop first rows)) ≡ part (first * 512) (count * 512) (bytes_of rows)
bytes_of-part first count rows = bytes_of-take count (drop first rows) ∙ ap (take (count * 512)) (bytes_of-drop first rows)

-- rows that were written between others
pub bytes_of-mid : (first count : ℕ) (rows ys : List (List ℕ))
    → bytes_of (put_mid first count rows ys) ≡ put_mid (first * 512) (count * 512) (bytes_of rows) (bytes_of ys)
bytes_of-mid first count rows ys =
    bytes_of-append (take first rows) (ys ++ drop count (drop first rows))
    ∙ ap (λ front. front ++ bytes_of (ys ++ drop count (drop first rows))) (bytes_of-take first rows)
    ∙ ap (λ back. take (first * 512) (bytes_of rows) ++ back)
    (bytes_of-append ys (drop count (drop first rows))
    ∙ ap (λ rest. bytes_of ys ++ rest)
    (bytes_of-drop count (drop first rows) ∙ ap (drop (count * 512)) (bytes_of-drop first rows)))

pub mid-spliced : (at count : ℕ) (old bytes : List ℕ) → length bytes ≡ count → put_mid at count old bytes ≡ splice old at bytes
mid-spliced at count old bytes e =
    sym (append_assoc (take at old) bytes (drop count (drop at old)))
    ∙ ap (λ rest. take at old ++ bytes ++ rest) (drop-drop count at old ∙ ap (λ k. drop (at + k) old) (sym e))

-- outside of what was written between others
pub mid-outside : {A : Type 0} (at count : ℕ) (old new : List A) (i : ℕ) (d : A)
    → at + count ≤ length old → length new ≡ count → (at ≤ i → at + count ≤ i)
    → slice_index_or (put_mid at count old new) i d ≡ slice_index_or old i d
mid-outside at count old new i d fits size outside = elim (cases_lt i at) [
  | inl h ↦ get_or_append_left (take at old) (new ++ drop count (drop at old)) d i (omega (arith, length-take-le at old (omega arith)))
      ∙ get_or-take at old i d h
  | inr h ↦
      let past : at + count ≤ i = outside h in
      let back : at + (count + (i - at - count)) ≡ i = omega arith in
      get_or-append_right (take at old) (new ++ drop count (drop at old)) at i d (length-take-le at old (omega arith)) h
      ∙ get_or-append_right new (drop count (drop at old)) count (i - at) d size (omega arith)
      ∙ get_or-drop count (drop at old) (i - at - count) d
      ∙ get_or-drop at old (count + (i - at - count)) d
      ∙ ap (λ k. slice_index_or old k d) back
]

pub mid-inside : {A : Type 0} (at count : ℕ) (old new : List A) (i : ℕ) (d : A)
    → at + count ≤ length old → length new ≡ count → at ≤ i → i < at + count
    → slice_index_or (put_mid at count old new) i d ≡ slice_index_or new (i - at) d
mid-inside at count old new i d fits size above below =
    get_or-append_right (take at old) (new ++ drop count (drop at old)) at i d (length-take-le at old (omega arith)) above
    ∙ get_or_append_left new (drop count (drop at old)) d (i - at) (omega arith)

pub length-mid : {A : Type 0} (at count : ℕ) (old new : List A) → at + count ≤ length old → length new ≡ count
    → length (put_mid at count old new) ≡ length old
length-mid at count old new fits size =
    omega (
      arith,
      length-append (take at old) (new ++ drop count (drop at old)),
      length-append new (drop count (drop at old)),
      length-take-le at old (omega arith),
      length-drop count (drop at old),
      length-drop at old,
    )

pub bytes_of-blank : (sectors : ℕ) → bytes_of (replicate sectors []) ≡ replicate (sectors * 512) 0
bytes_of-blank zero = refl
bytes_of-blank (suc n) =
    let is : 512 + n * 512 ≡ suc n * 512 = omega arith in
    let first : sector_bytes [] ≡ replicate 512 0 = sector_bytes-other [] 512 refl (λ full. omega arith) in
    ap (λ bytes. bytes ++ bytes_of (replicate n [])) first
    ∙ ap (λ rest. replicate 512 0 ++ rest) (bytes_of-blank n)
    ∙ replicate-append-replicate {A = ℕ} 512 (n * 512) 0
    ∙ ap (λ k. replicate {A = ℕ} k 0) is

pub length-part : {A : Type 0} (at count : ℕ) (xs : List A) → at + count ≤ length xs → length (take count (drop at xs)) ≡ count
length-part at count xs fits = length-take-le count (drop at xs) (omega (arith, length-drop at xs))

-- one sector of the bytes of some rows
pub part-row : (rows : List (List ℕ)) (k : ℕ) → k < length rows → part (k * 512) 512 (bytes_of rows) ≡ sector_bytes (slice_index_or rows k [])
part-row [] k below = absurd (omega arith)
part-row (row ∷ rows) zero below = take_at (sector_bytes row) (bytes_of rows) 512 (length-sector_bytes row)
part-row (row ∷ rows) (suc k) below =
    let is : suc k * 512 ≡ 512 + k * 512 = omega arith in
    ap (λ n. take 512 (drop n (bytes_of (row ∷ rows)))) is
    ∙ ap (take 512) (drop_past (sector_bytes row) (bytes_of rows) 512 (k * 512) (length-sector_bytes row))
    ∙ part-row rows k (omega arith)

-- one more row
pub bytes_of-more : (rows : List (List ℕ)) (i : ℕ) (row : List ℕ) → i < length rows → row ≡ slice_index_or rows i row
    → bytes_of (take (i + 1) rows) ≡ bytes_of (take i rows) ++ sector_bytes row
bytes_of-more rows i row below e =
    ap bytes_of (take_more rows i row below)
    ∙ bytes_of-append (take i rows) (slice_index_or rows i row ∷ [])
    ∙ ap (λ (bytes : List ℕ). bytes_of (take i rows) ++ bytes) (append-nil (sector_bytes (slice_index_or rows i row)) ∙ ap sector_bytes (sym e))
