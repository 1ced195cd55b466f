-- A number that was written at an offset is read there, and a number that was read stands there.
use Rattle.std.proofs.Common.{◌≡◌, ℕ, ◌+◌, ◌*◌, ◌^◌, ◌<◌, ◌≤◌, List, [], ◌∷◌, ◌++◌, length, drop, refl, sym, ap, ◌∙◌, arith, length-drop, length-append}
use Rattle.std.specs.Int.{w32, w64, to_le_bytes, from_le_bytes}
use Rattle.std.proofs.lemmas.List.{take-append-drop, length-take, length-take-le, get_or-take, get_or-drop, get_or_past, drop-drop}
use Rattle.std.proofs.lemmas.Bool.{cases_lt}
use Rattle.std.proofs.lemmas.Nat.{le_bytes_4, le_bytes_8, from_le_bytes-to_le_bytes_4, from_le_bytes-to_le_bytes_8}
use Rattle.std.proofs.Math.Seq.{drop-append-add}
use Rattle.era_base.specs.Bytes.{part}
use Rattle.era_layout.specs.Numbers.{AreBytes, u32_bytes, u64_bytes, u32s_bytes, u64s_bytes, u32_at, u64_at}
use Rattle.std.proofs.Common.{inl, inr}

pub length-u32_bytes : (n : ℕ) → length (u32_bytes n) ≡ 4
unfolding u32_bytes
length-u32_bytes n = refl

pub length-u64_bytes : (n : ℕ) → length (u64_bytes n) ≡ 8
unfolding u64_bytes
length-u64_bytes n = refl

pub length-u32s_bytes : (ns : List ℕ) → length (u32s_bytes ns) ≡ 4 * length ns
length-u32s_bytes [] = refl
length-u32s_bytes (n ∷ ns) = omega (arith, length-append (u32_bytes n) (u32s_bytes ns), length-u32_bytes n, length-u32s_bytes ns)

pub length-u64s_bytes : (ns : List ℕ) → length (u64s_bytes ns) ≡ 8 * length ns
length-u64s_bytes [] = refl
length-u64s_bytes (n ∷ ns) = omega (arith, length-append (u64_bytes n) (u64s_bytes ns), length-u64_bytes n, length-u64s_bytes ns)

-- a number behind others is read as from the front of the rest
pub u32_at-append : (xs ys : List ℕ) (count offset : ℕ) → length xs ≡ count → u32_at (xs ++ ys) (count + offset) ≡ u32_at ys offset
unfolding u32_at
u32_at-append xs ys count offset len = rw (← len, drop-append-add) refl

pub u64_at-append : (xs ys : List ℕ) (count offset : ℕ) → length xs ≡ count → u64_at (xs ++ ys) (count + offset) ≡ u64_at ys offset
unfolding u64_at
u64_at-append xs ys count offset len = rw (← len, drop-append-add) refl

-- a number that stands at the front is read
pub u32_at-front : (n : ℕ) (rest : List ℕ) → n < 2 ^ 32 → u32_at (u32_bytes n ++ rest) 0 ≡ n
unfolding u32_at u32_bytes
u32_at-front n rest lt = from_le_bytes-to_le_bytes_4 n lt

pub u64_at-front : (n : ℕ) (rest : List ℕ) → n < 2 ^ 64 → u64_at (u64_bytes n ++ rest) 0 ≡ n
unfolding u64_at u64_bytes
u64_at-front n rest lt = from_le_bytes-to_le_bytes_8 n lt

AreBytes-part : (offset count : ℕ) (bytes : List ℕ) → AreBytes bytes → AreBytes (part offset count bytes)
AreBytes-part offset count bytes fits i =
    elim (cases_lt i count) [
      | inl lt ↦ rw (get_or-take count (drop offset bytes) i 0 lt, get_or-drop) (fits (offset + i))
      | inr le ↦ rw (get_or_past (part offset count bytes) i 0 (omega (arith, length-take count (drop offset bytes)))) (omega arith)
    ]

length-part : (offset count : ℕ) (bytes : List ℕ) → offset + count ≤ length bytes → length (part offset count bytes) ≡ count
length-part offset count bytes le = length-take-le count (drop offset bytes) (omega (arith, length-drop offset bytes))

part_split : (offset count : ℕ) (bytes : List ℕ) → drop offset bytes ≡ part offset count bytes ++ drop (offset + count) bytes
part_split offset count bytes = sym (take-append-drop count (drop offset bytes)) ∙ ap (λ (rest : List ℕ). part offset count bytes ++ rest) (drop-drop count offset bytes)

-- a number that is read at an offset stands there
pub u32_split : (bytes : List ℕ) (offset next : ℕ) → AreBytes bytes → offset + 4 ≡ next → next ≤ length bytes → drop offset bytes ≡ u32_bytes (u32_at bytes offset) ++ drop next bytes
unfolding u32_at u32_bytes
u32_split bytes offset next fits is le =
    let stands : to_le_bytes w32 (from_le_bytes w32 (part offset 4 bytes)) ≡ part offset 4 bytes = le_bytes_4 (part offset 4 bytes) _ (length-part offset 4 bytes (omega arith)) (AreBytes-part offset 4 bytes fits) refl in
    part_split offset 4 bytes ∙ ap (λ (front : List ℕ). front ++ drop (offset + 4) bytes) (sym stands) ∙ ap (λ (k : ℕ). to_le_bytes w32 (from_le_bytes w32 (part offset 4 bytes)) ++ drop k bytes) is

pub u64_split : (bytes : List ℕ) (offset next : ℕ) → AreBytes bytes → offset + 8 ≡ next → next ≤ length bytes → drop offset bytes ≡ u64_bytes (u64_at bytes offset) ++ drop next bytes
unfolding u64_at u64_bytes
u64_split bytes offset next fits is le =
    let stands : to_le_bytes w64 (from_le_bytes w64 (part offset 8 bytes)) ≡ part offset 8 bytes = le_bytes_8 (part offset 8 bytes) _ (length-part offset 8 bytes (omega arith)) (AreBytes-part offset 8 bytes fits) refl in
    part_split offset 8 bytes ∙ ap (λ (front : List ℕ). front ++ drop (offset + 8) bytes) (sym stands) ∙ ap (λ (k : ℕ). to_le_bytes w64 (from_le_bytes w64 (part offset 8 bytes)) ++ drop k bytes) is

-- a number that is read is below 2^32
pub u32_at_below : (bytes : List ℕ) (offset : ℕ) → AreBytes bytes → u32_at bytes offset < 2 ^ 32
unfolding u32_at
u32_at_below bytes offset fits =
    let f = AreBytes-part offset 4 bytes fits in omega (arith, f 0, f 1, f 2, f 3)

pub u64_at_below : (bytes : List ℕ) (offset : ℕ) → AreBytes bytes → u64_at bytes offset < 2 ^ 64
unfolding u64_at
u64_at_below bytes offset fits =
    let f = AreBytes-part offset 8 bytes fits in omega (arith, f 0, f 1, f 2, f 3, f 4, f 5, f 6, f 7)
