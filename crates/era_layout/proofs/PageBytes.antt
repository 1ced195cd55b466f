-- A page has no other bytes than those of its entries or bits.
use Rattle.std.proofs.Common.{◌≡◌, ℕ, zero, suc, ◌+◌, ◌*◌, ◌/◌, ◌%◌, ◌<◌, eqb, List, ◌++◌, length, get_or, refl, sym, ap, ◌∙◌, arith}
use Rattle.std.specs.Int.{bit_at}
use Rattle.std.proofs.lemmas.List.{append-nil, drop_all, ext_get_or}
use Rattle.std.proofs.lemmas.Nat.Bits.{bit_at-lt, same_from_bits_below}
use Rattle.era_layout.specs.Numbers.{AreBytes, u32s_bytes, u32_at, u32s_at}
use Rattle.era_base.specs.Bits.{bit_of}
use Rattle.era_layout.specs.Pages.{entry_at, flag_at}
use Rattle.era_layout.proofs.ListBytes.{u32s_split}

same_numbers : (one other : List ℕ) (offset count : ℕ) → ((index : ℕ) → index < count → u32_at one (offset + 4 * index) ≡ u32_at other (offset + 4 * index)) → u32s_at one offset count ≡ u32s_at other offset count
same_numbers one other offset zero same = refl
same_numbers one other offset (suc count) same =
    let here : offset + 4 * zero ≡ offset = omega arith in
    let first : u32_at one offset ≡ u32_at other offset = rw here at (same zero (omega arith)) in
    let others : u32s_at one (offset + 4) count ≡ u32s_at other (offset + 4) count = same_numbers one other (offset + 4) count (λ index lt.
    let next : offset + 4 + 4 * index ≡ offset + 4 * suc index = omega arith in
    rw next (same (suc index) (omega arith))) in
    rw (first, others) refl

-- the bytes are those of the numbers in them
only_numbers : (page : List ℕ) (count : ℕ) → length page ≡ 4 * count → AreBytes page → page ≡ u32s_bytes (u32s_at page 0 count)
only_numbers page count size fits =
    u32s_split page 0 count (4 * count) fits (omega arith) (omega arith)
    ∙ ap (λ (rest : List ℕ). u32s_bytes (u32s_at page 0 count) ++ rest) (drop_all (4 * count) page (omega arith))
    ∙ append-nil (u32s_bytes (u32s_at page 0 count))

pub same_entries : (one other : List ℕ) (count : ℕ) → length one ≡ 4 * count → length other ≡ 4 * count → AreBytes one → AreBytes other
    → ((index : ℕ) → index < count → entry_at one index ≡ entry_at other index) → one ≡ other
same_entries one other count size size' fits fits' same =
    only_numbers one count size fits
    ∙ ap u32s_bytes (same_numbers one other 0 count (λ index lt. let here : 0 + 4 * index ≡ 4 * index = omega arith in rw here (same index lt)))
    ∙ sym (only_numbers other count size' fits')

-- bits that are set alike are equal
alike : (one other : ℕ) → one < 2 → other < 2 → eqb one 1 ≡ eqb other 1 → one ≡ other
alike zero zero lt lt' same = refl
alike zero (suc zero) lt lt' same = cc
alike (suc zero) zero lt lt' same = cc
alike (suc zero) (suc zero) lt lt' same = refl
alike one (suc (suc other)) lt lt' same = absurd (omega arith)
alike (suc (suc one)) other lt lt' same = absurd (omega arith)

same_bit : (one other index : ℕ) → bit_of one index ≡ bit_of other index → bit_at one index ≡ bit_at other index
unfolding bit_of
same_bit one other index same = alike (bit_at one index) (bit_at other index) (bit_at-lt one index) (bit_at-lt other index) same

pub same_bits : (one other : List ℕ) (count : ℕ) → length one ≡ count → length other ≡ count → AreBytes one → AreBytes other
    → ((index : ℕ) → index < 8 * count → flag_at one index ≡ flag_at other index) → one ≡ other
same_bits one other count size size' fits fits' same =
    ext_get_or 0 one other (omega arith) (λ place lt.
    same_from_bits_below 8 (get_or one place 0) (get_or other place 0) (fits place) (fits' place) (λ bit below.
    let at : (8 * place + bit) / 8 ≡ place = omega arith in
    let which : (8 * place + bit) % 8 ≡ bit = omega arith in
    same_bit (get_or one place 0) (get_or other place 0) bit (rw (at, which) at (same (8 * place + bit) (omega arith)))))
