-- Words in which the bit of a block was set or cleared, or that took over the bits of other words.
use Rattle.std.proofs.Common.{◌≡◌, ℕ, ◌+◌, ◌*◌, ◌/◌, ◌%◌, ◌^◌, ◌<◌, ◌≤◌, ◌==◌, true, false, ◌||◌, List, length, get_or, set, w64, refl, ap, sym, ◌∙◌, subst, inl, inr, arith}
use Rattle.std.specs.Prelude.{bit_or, bit_and}
use Rattle.std.specs.Int.{bit_not}
use Rattle.std.proofs.lemmas.Bool.{cases_eq, cases_lt}
use Rattle.std.proofs.lemmas.List.{get_or-set_same, get_or-set_other, get_or_past, length-set}
use Rattle.std.proofs.lemmas.Nat.Bits.{bit_at_set_same, bit_at_set_other, bit_at_clear_same, bit_at_clear_other}
use Rattle.era_base.specs.Bits.{bit_of, bit_of_words}
use Rattle.era_sets.proofs.WordBits.{bit_of-or, bit-there, bits-elsewhere}
use Rattle.era_base.specs.Flags.{has}
use Rattle.era_sets.specs.Words.{ArePacked}
use Rattle.era_sets.proofs.Flags.{ChangesBit, flag-bit, flags_of}

set-same : (word bit : ℕ) → bit < 64 → bit_of (bit_or word (1 * 2 ^ bit % 2 ^ 64)) bit ≡ true
unfolding bit_of
set-same word bit lt = ap (λ n. n == 1) (bit_at_set_same w64 word bit lt)

set-other : (word bit other : ℕ) → bit < 64 → (other ≡ bit → ⊥) → bit_of (bit_or word (1 * 2 ^ bit % 2 ^ 64)) other ≡ bit_of word other
unfolding bit_of
set-other word bit other lt differs = ap (λ n. n == 1) (bit_at_set_other w64 word bit lt other differs)

clear-same : (word bit : ℕ) → bit < 64 → bit_of (bit_and word (bit_not w64 (1 * 2 ^ bit % 2 ^ 64))) bit ≡ false
unfolding bit_of
clear-same word bit lt = ap (λ n. n == 1) (bit_at_clear_same w64 word bit lt)

clear-other : (word bit other : ℕ) → bit < 64 → other < 64 → (other ≡ bit → ⊥) → bit_of (bit_and word (bit_not w64 (1 * 2 ^ bit % 2 ^ 64))) other ≡ bit_of word other
unfolding bit_of
clear-other word bit other lt lt' differs = ap (λ n. n == 1) (bit_at_clear_other w64 word bit lt other lt' differs)

-- the bit of the block was set
pub marks-bit : (words : List ℕ) (word block : ℕ) → word ≡ get_or words (block / 64) 0 → block / 64 < length words
    → ChangesBit words (set words (block / 64) (bit_or word (1 * 2 ^ (block % 64) % 2 ^ 64))) block true
marks-bit words word block is within =
    let word' : ℕ = bit_or word (1 * 2 ^ (block % 64) % 2 ^ 64) in
    let lt : block % 64 < 64 = omega arith in
    record {
      size = length-set words (block / 64) word';
      changed = bit-there words word word' block within ∙ set-same word (block % 64) lt;
      others = bits-elsewhere words word word' block within is (λ bit _ differs. set-other word (block % 64) bit lt differs);
    }

-- the bit of the block was cleared
pub unmarks-bit : (words : List ℕ) (word block : ℕ) → word ≡ get_or words (block / 64) 0 → block / 64 < length words
    → ChangesBit words (set words (block / 64) (bit_and word (bit_not w64 (1 * 2 ^ (block % 64) % 2 ^ 64)))) block false
unmarks-bit words word block is within =
    let word' : ℕ = bit_and word (bit_not w64 (1 * 2 ^ (block % 64) % 2 ^ 64)) in
    let lt : block % 64 < 64 = omega arith in
    record {
      size = length-set words (block / 64) word';
      changed = bit-there words word word' block within ∙ clear-same word (block % 64) lt;
      others = bits-elsewhere words word word' block within is (λ bit lt' differs. clear-other word (block % 64) bit lt lt' differs);
    }

-- Words have taken over the bits of others below one of them, and are from there on as they were before.
pub record HasTaken (before other now : List ℕ) (at : ℕ) : Type 0 where
  pub size : length now ≡ length before
  pub taken : (word : ℕ) → word < at → get_or now word 0 ≡ bit_or (get_or before word 0) (get_or other word 0)
  pub rest : (word : ℕ) → at ≤ word → get_or now word 0 ≡ get_or before word 0

pub taken-start : (before other : List ℕ) → HasTaken before other before 0
taken-start before other = record { size = refl; taken = λ word lt. absurd (omega arith); rest = λ word past. refl }

pub taken-more : (before other now : List ℕ) (at word more : ℕ) → HasTaken before other now at → at < length before → word ≡ get_or now at 0 → more ≡ get_or other at 0
    → HasTaken before other (set now at (bit_or word more)) (at + 1)
taken-more before other now at word more has within is is_more = record {
  size = length-set now at (bit_or word more) ∙ has.size;
  taken = λ index lt. elim (cases_eq index at) [
    | inl same ↦ subst (λ i. get_or (set now at (bit_or word more)) i 0 ≡ bit_or (get_or before i 0) (get_or other i 0)) (sym same)
        (get_or-set_same now at (bit_or word more) 0 (let n = has.size in omega arith)
        ∙ ap (λ n. bit_or n more) (is ∙ has.rest at (omega arith)) ∙ ap (λ n. bit_or (get_or before at 0) n) is_more)
    | inr differs ↦ get_or-set_other now at index (bit_or word more) 0 differs ∙ has.taken index (omega arith)
  ];
  rest = λ index past. get_or-set_other now at index (bit_or word more) 0 (λ same. omega arith) ∙ has.rest index (omega arith);
}

-- where all words have taken over the others' bits, each bit is set that is in either
pub taken-bits : (before other now : List ℕ) (at : ℕ) → HasTaken before other now at → length before ≤ at → length other ≡ length before
    → (index : ℕ) → bit_of_words now index ≡ (bit_of_words before index || bit_of_words other index)
taken-bits before other now at has all same index =
    ap (λ n. bit_of n (index % 64)) (elim (cases_lt (index / 64) at) [
      | inl within ↦ has.taken (index / 64) within
      | inr past ↦ has.rest (index / 64) past ∙ past-end (index / 64) (omega arith)
    ])
    ∙ bit_of-or (get_or before (index / 64) 0) (get_or other (index / 64) 0) (index % 64)
  where
    past-end : (word : ℕ) → length before ≤ word → get_or before word 0 ≡ bit_or (get_or before word 0) (get_or other word 0)
    past-end word past =
        let none : get_or before word 0 ≡ 0 = get_or_past before word 0 past in
        let none' : get_or other word 0 ≡ 0 = get_or_past other word 0 (omega arith) in
        rw (none, none') refl

-- Sets of as many blocks, one of which has taken over the other's words.
module _ (blocks : ℕ) (before other now : List ℕ) (at : ℕ) (packed : ArePacked blocks before) (packed' : ArePacked blocks other) (has_all : HasTaken before other now at) (all : length before ≤ at) where
  same-length : length other ≡ length before
  same-length = packed'.size ∙ sym packed.size

  pub taken-packed : ArePacked blocks now
  taken-packed = record {
    size = has_all.size ∙ packed.size;
    past = λ block past. taken-bits before other now at has_all all same-length block ∙ ap (λ flag. flag || bit_of_words other block) (packed.past block past) ∙ packed'.past block past;
  }

  pub taken-flags : (block : ℕ) → has (flags_of blocks now) block ≡ (has (flags_of blocks before) block || has (flags_of blocks other) block)
  taken-flags block =
      flag-bit blocks now block taken-packed ∙ taken-bits before other now at has_all all same-length block
      ∙ ap (λ flag. flag || bit_of_words other block) (sym (flag-bit blocks before block packed))
      ∙ ap (λ flag. has (flags_of blocks before) block || flag) (sym (flag-bit blocks other block packed'))
