-- Bits of words of 64 bits: of one that is shifted, and after one bit or one word of a list was changed.
use Rattle.std.proofs.Common.{◌≡◌, ℕ, ◌+◌, ◌-◌, ◌*◌, ◌/◌, ◌%◌, ◌^◌, ◌<◌, ◌≤◌, ◌==◌, max, Bool, true, false, not, ◌||◌, List, length, get_or, set, w64, refl, ap, sym, ◌∙◌, subst, inl, inr, arith}
use Rattle.std.specs.Int.{bit_at, bit_not, trailing_zeros, trailing_ones}
use Rattle.std.specs.Prelude.{bit_or}
use Rattle.std.proofs.lemmas.Bool.{cases_eq, cases_lt}
use Rattle.std.proofs.lemmas.Bool.Decides.{nat_tests}
use Rattle.std.proofs.lemmas.List.{get_or-set_same, get_or-set_other}
use Rattle.std.proofs.lemmas.Nat.{shr-shr}
use Rattle.std.proofs.lemmas.Nat.Bits.{bit_at-lt, bit_at-zero, bit_at_not, bit_at_or, bit_at-trailing_zeros}
use Rattle.std.specs.Int.Count.{trailing_of_zero}
use Rattle.era_base.specs.Bits.{bit_of, bit_of_words}
use Rattle.era_base.specs.Runs.{IsFirstWith}

-- the bits of a word that is shifted to the right
pub bit_of-shifted : (word passed bit : ℕ) → bit_of (word / 2 ^ passed) bit ≡ bit_of word (passed + bit)
unfolding bit_of
bit_of-shifted word passed bit = ap (λ n. n % 2 == 1) (shr-shr word passed bit)

pub bit_of-zero : (bit : ℕ) → bit_of 0 bit ≡ false
unfolding bit_of
bit_of-zero bit = ap (λ n. n == 1) (bit_at-zero bit)

either : (one other : ℕ) → one < 2 → other < 2 → (max one other == 1) ≡ ((one == 1) || (other == 1))
either one other lt lt' = grind (arith, nat_tests)

pub bit_of-or : (one other bit : ℕ) → bit_of (bit_or one other) bit ≡ (bit_of one bit || bit_of other bit)
unfolding bit_of
bit_of-or one other bit = ap (λ n. n == 1) (bit_at_or one other bit) ∙ either (bit_at one bit) (bit_at other bit) (bit_at-lt one bit) (bit_at-lt other bit)

clear-bit : (word bit : ℕ) → bit_at word bit ≡ 0 → bit_of word bit ≡ false
unfolding bit_of
clear-bit word bit is = ap (λ n. n == 1) is

set-bit : (word bit : ℕ) → bit_at word bit ≡ 1 → bit_of word bit ≡ true
unfolding bit_of
set-bit word bit is = ap (λ n. n == 1) is

none-set : IsFirstWith (bit_of 0) true 0 64 (trailing_zeros w64 0)
none-set = let all : trailing_zeros w64 0 ≡ 64 = trailing_of_zero 64 in record {
  order = omega arith;
  within = omega (arith, all);
  passed = λ bit low high. bit_of-zero bit;
  found = λ lt. absurd (omega (arith, all));
}

-- the lowest bit that is set, or that is clear
pub first-set : (word : ℕ) → word < 2 ^ 64 → IsFirstWith (bit_of word) true 0 64 (trailing_zeros w64 word)
first-set word fits = elim (cases_eq word 0) [
  | inl none ↦ subst (λ n. IsFirstWith (bit_of n) true 0 64 (trailing_zeros w64 n)) (sym none) none-set
  | inr some ↦
      let lowest = bit_at-trailing_zeros w64 word (let p : 0 < word = omega arith in p) fits in
      record {
        order = omega arith;
        within = omega (arith, lowest.0);
        passed = λ bit low high. clear-bit word bit (lowest.2 bit high);
        found = λ lt. set-bit word _ lowest.1;
      }
]

turned : (bit : ℕ) → bit < 2 → (bit == 1) ≡ not (1 - bit == 1)
turned bit lt = grind (arith, nat_tests)

-- a bit of a word is the other one in the word with all bits turned
turned-bit : (word bit : ℕ) → word < 2 ^ 64 → bit < 64 → bit_of word bit ≡ not (bit_of (bit_not w64 word) bit)
unfolding bit_of
turned-bit word bit fits lt =
    turned (bit_at word bit) (bit_at-lt word bit) ∙ ap (λ n. not (n == 1)) (sym (bit_at_not w64 word bit fits lt))

pub first-clear : (word : ℕ) → word < 2 ^ 64 → IsFirstWith (bit_of word) false 0 64 (trailing_ones w64 word)
first-clear word fits =
    let first = first-set (bit_not w64 word) (omega arith) in
    record {
      order = first.order;
      within = first.within;
      passed = λ bit low high. turned-bit word bit fits (omega (arith, first.within)) ∙ ap not (first.passed bit low high);
      found = λ lt. turned-bit word _ fits lt ∙ ap not (first.found lt);
    }

-- a bit of the words, by its word
pub bit-of-word : (words : List ℕ) (word at bit : ℕ) → word ≡ get_or words at 0 → bit < 64 → bit_of_words words (64 * at + bit) ≡ bit_of word bit
bit-of-word words word at bit is lt =
    let place : (64 * at + bit) / 64 ≡ at = omega arith in
    let rest : (64 * at + bit) % 64 ≡ bit = omega arith in
    rw (place, rest, is) refl

-- What the first bit of the kind from one on says, within the word at which it lies or in which there is none.
module _ (words : List ℕ) (word at from found : ℕ) (flag : Bool) (is : word ≡ get_or words at 0) (first : IsFirstWith (bit_of (word / 2 ^ (from - 64 * at))) flag 0 64 found) where
  bit-behind : (bit : ℕ) → from - 64 * at + bit < 64 → bit_of (word / 2 ^ (from - 64 * at)) bit ≡ bit_of_words words (64 * at + (from - 64 * at + bit))
  bit-behind bit lt = bit_of-shifted word (from - 64 * at) bit ∙ sym (bit-of-word words word at (from - 64 * at + bit) is lt)

  pub passed-in-word : (index : ℕ) → from ≤ index → 64 * at ≤ index → index < 64 * (at + 1) → index < 64 * at + (from - 64 * at + found) → bit_of_words words index ≡ not flag
  passed-in-word index after low high before =
      let bit : ℕ = index - 64 * at - (from - 64 * at) in
      let here : 64 * at + (from - 64 * at + bit) ≡ index = omega arith in
      subst (λ i. bit_of_words words i ≡ not flag) here (sym (bit-behind bit (omega arith)) ∙ first.passed bit (omega arith) (omega arith))

  pub found-in-word : from - 64 * at + found < 64 → bit_of_words words (64 * at + (from - 64 * at + found)) ≡ flag
  found-in-word lt = sym (bit-behind found lt) ∙ first.found (omega arith)

  -- the bits before the next word
  pub passed-more : ((index : ℕ) → from ≤ index → index < 64 * at → bit_of_words words index ≡ not flag) → 64 ≤ from - 64 * at + found
      → (index : ℕ) → from ≤ index → index < 64 * (at + 1) → bit_of_words words index ≡ not flag
  passed-more before none index after high = elim (cases_lt index (64 * at)) [
    | inl early ↦ before index after early
    | inr late ↦ passed-in-word index after late high (omega arith)
  ]

  -- the bit was found
  pub found-first : ((index : ℕ) → from ≤ index → index < 64 * at → bit_of_words words index ≡ not flag) → from - 64 * at + found < 64 → at < length words
      → IsFirstWith (bit_of_words words) flag from (64 * length words) (64 * at + (from - 64 * at + found))
  found-first before lt within = record {
    order = omega arith;
    within = omega arith;
    passed = λ index after high. elim (cases_lt index (64 * at)) [
      | inl early ↦ before index after early
      | inr late ↦ passed-in-word index after late (omega arith) high
    ];
    found = λ end. found-in-word lt;
  }

-- The word of a block after one of its bits was changed, in place of the one before.
module _ (words : List ℕ) (word word' block : ℕ) (within : block / 64 < length words) where
  changed-word : get_or (set words (block / 64) word') (block / 64) 0 ≡ word'
  changed-word = get_or-set_same words (block / 64) word' 0 within

  -- the bit of the block is that of its new word
  pub bit-there : bit_of_words (set words (block / 64) word') block ≡ bit_of word' (block % 64)
  bit-there = ap (λ n. bit_of n (block % 64)) changed-word

  -- all other bits stay, where the new word has the old one's other bits
  pub bits-elsewhere : word ≡ get_or words (block / 64) 0 → ((bit : ℕ) → bit < 64 → (bit ≡ block % 64 → ⊥) → bit_of word' bit ≡ bit_of word bit)
      → (other : ℕ) → (other ≡ block → ⊥) → bit_of_words (set words (block / 64) word') other ≡ bit_of_words words other
  bits-elsewhere is same other differs = elim (cases_eq (other / 64) (block / 64)) [
    | inl here ↦
        let bit : other % 64 ≡ block % 64 → ⊥ = λ e. differs (omega arith) in
        rw (here, changed-word) (same (other % 64) (omega arith) bit ∙ ap (λ n. bit_of n (other % 64)) is)
    | inr there ↦ ap (λ n. bit_of n (other % 64)) (get_or-set_other words (block / 64) (other / 64) word' 0 there)
  ]
