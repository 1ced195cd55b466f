-- The entries and bits of a page are those that were written.
use Rattle.std.proofs.Common.{◌≡◌, ℕ, zero, suc, ◌+◌, ◌-◌, ◌*◌, ◌/◌, ◌%◌, ◌^◌, ◌<◌, ◌≤◌, eqb, List, [], ◌∷◌, ◌++◌, length, false, min, get_or, drop, replicate, refl, sym, ap, ◌∙◌, append_assoc, arith, inl, inr}
use Rattle.std.specs.Int.{bit_at}
use Rattle.std.proofs.lemmas.Nat.Bits.{bit_at_and, bit_at_ones, bit_at-lt, bit_at-zero}
use Rattle.std.proofs.lemmas.Bool.{cases_lt}
use Rattle.std.proofs.lemmas.List.{get_or-take, get_or-drop, length-take, get_or-replicate, get_or_past, length-replicate, get_or-append-add, get_or_append_left}
use Rattle.std.proofs.lemmas.Nat.{and_mask, shr-shr}
use Rattle.era_base.specs.Bytes.{part}
use Rattle.era_layout.specs.Numbers.{u32_bytes, u64_bytes, u32s_bytes, u64s_bytes, u32_at}
use Rattle.era_base.specs.Bits.{bit_of, bit_of_words}
use Rattle.era_layout.specs.Pages.{flag_at}
use Rattle.era_layout.proofs.NumberBytes.{length-u32_bytes, length-u64_bytes, u32_at-append, u32_at-front}

zeros_at : (count index : ℕ) → get_or {A = ℕ} (replicate count 0) index 0 ≡ 0
zeros_at count index =
    elim (cases_lt index count) [
      | inl lt ↦ get_or-replicate count index 0 0 lt
      | inr le ↦ get_or_past (replicate count 0) index 0 (omega (arith, length-replicate {A = ℕ} count 0))
    ]

zeros_part : (count offset i : ℕ) → get_or {A = ℕ} (part offset 4 (replicate count 0)) i 0 ≡ 0
zeros_part count offset i =
    let zeros : List ℕ = replicate count 0 in
    elim (cases_lt i 4) [
      | inl lt ↦ rw (get_or-take {A = ℕ} 4 (drop offset zeros) i 0 lt, get_or-drop) (zeros_at count (offset + i))
      | inr le ↦ get_or_past (part offset 4 zeros) i 0 (omega (arith, length-take 4 (drop offset zeros)))
    ]

-- among zeros each number is 0
zero_at : (count offset : ℕ) → u32_at (replicate count 0) offset ≡ 0
unfolding u32_at
zero_at count offset =
    let z = zeros_part count offset in omega (arith, z 0, z 1, z 2, z 3)

-- each entry behind the written ones is 0, and each of those is what was written
pub entry_written : (eras : List ℕ) (count index : ℕ) → ((i : ℕ) → get_or eras i 0 < 2 ^ 32) → u32_at (u32s_bytes eras ++ replicate count 0) (4 * index) ≡ get_or eras index 0
entry_written [] count index fits = zero_at count (4 * index)
entry_written (era ∷ eras) count zero fits =
    rw append_assoc (u32_at-front era (u32s_bytes eras ++ replicate count 0) (fits 0))
entry_written (era ∷ eras) count (suc index) fits =
    let next : 4 * suc index ≡ 4 + 4 * index = omega arith in
    rw (next, append_assoc) (u32_at-append (u32_bytes era) (u32s_bytes eras ++ replicate count 0) 4 (4 * index) (length-u32_bytes era) ∙ entry_written eras count index (λ i. fits (suc i)))

-- ---- bits

byte_of : (word j : ℕ) → j < 8 → get_or (u64_bytes word) j 0 ≡ word / 2 ^ (8 * j) % 2 ^ 8
unfolding u64_bytes
byte_of word zero lt = omega arith
byte_of word (suc zero) lt = refl
byte_of word (suc (suc zero)) lt = refl
byte_of word (suc (suc (suc zero))) lt = refl
byte_of word (suc (suc (suc (suc zero)))) lt = refl
byte_of word (suc (suc (suc (suc (suc zero))))) lt = refl
byte_of word (suc (suc (suc (suc (suc (suc zero)))))) lt = refl
byte_of word (suc (suc (suc (suc (suc (suc (suc zero))))))) lt = refl
byte_of word (suc (suc (suc (suc (suc (suc (suc (suc j)))))))) lt = absurd (omega arith)

least : (b : ℕ) → b < 2 → min b 1 ≡ b
least b lt = omega arith

low_bit : (n k : ℕ) → k < 8 → bit_at (n % 2 ^ 8) k ≡ bit_at n k
low_bit n k lt =
    let masked : bit_at (n % 2 ^ 8) k ≡ min (bit_at n k) (bit_at (2 ^ 8 - 1) k) = ap (λ (m : ℕ). bit_at m k) (sym (and_mask n 8)) ∙ bit_at_and n (2 ^ 8 - 1) k in
    let one : bit_at (2 ^ 8 - 1) k ≡ 1 = bit_at_ones 8 k lt in
    let small : bit_at n k < 2 = bit_at-lt n k in
    masked ∙ ap (λ (b : ℕ). min (bit_at n k) b) one ∙ least (bit_at n k) small

bit_of_byte : (word j k : ℕ) → j < 8 → k < 8 → bit_of (get_or (u64_bytes word) j 0) k ≡ bit_of word (8 * j + k)
unfolding bit_of
bit_of_byte word j k lt lt' =
    ap (λ (n : ℕ). eqb (bit_at n k) 1) (byte_of word j lt) ∙ ap (λ (b : ℕ). eqb b 1) (low_bit (word / 2 ^ (8 * j)) k lt' ∙ ap (λ (n : ℕ). n % 2) (shr-shr word (8 * j) k))

bit_of_zero : (k : ℕ) → bit_of 0 k ≡ false
unfolding bit_of
bit_of_zero k = ap (λ (b : ℕ). eqb b 1) (bit_at-zero k)

bit_in_first : (word : ℕ) (words rest : List ℕ) (index : ℕ) → index < 64 → flag_at (u64_bytes word ++ rest) index ≡ bit_of_words (word ∷ words) index
bit_in_first word words rest index lt =
    let len = length-u64_bytes word in
    let inside : index / 8 < length (u64_bytes word) = omega arith in
    let first : index / 64 ≡ 0 = omega arith in
    let itself : index % 64 ≡ 8 * (index / 8) + index % 8 = omega arith in
    ap (λ (n : ℕ). bit_of n (index % 8)) (get_or_append_left (u64_bytes word) rest 0 (index / 8) inside)
    ∙ bit_of_byte word (index / 8) (index % 8) (omega arith) (omega arith)
    ∙ rw (first, itself) refl

bit_in_rest : (word : ℕ) (words rest : List ℕ) (index : ℕ) → 64 ≤ index → flag_at rest (index - 64) ≡ bit_of_words words (index - 64) → flag_at (u64_bytes word ++ rest) index ≡ bit_of_words (word ∷ words) index
bit_in_rest word words rest index le same =
    let len = length-u64_bytes word in
    let byte : index / 8 ≡ length (u64_bytes word) + (index - 64) / 8 = omega arith in
    let bit : index % 8 ≡ (index - 64) % 8 = omega arith in
    let place : index / 64 ≡ suc ((index - 64) / 64) = omega arith in
    let within : index % 64 ≡ (index - 64) % 64 = omega arith in
    rw (byte, bit, place, within, get_or-append-add) same

-- each bit behind the written words is clear, and each of those is what was written
pub bit_written : (words : List ℕ) (count index : ℕ) → flag_at (u64s_bytes words ++ replicate count 0) index ≡ bit_of_words words index
bit_written [] count index =
    ap (λ (n : ℕ). bit_of n (index % 8)) (zeros_at count (index / 8)) ∙ bit_of_zero (index % 8) ∙ sym (bit_of_zero (index % 64))
bit_written (word ∷ words) count index =
    let rest = u64s_bytes words ++ replicate count 0 in
    rw append_assoc (elim (cases_lt index 64) [
      | inl lt ↦ bit_in_first word words rest index lt
      | inr le ↦ bit_in_rest word words rest index le (bit_written words count (index - 64))
    ])
