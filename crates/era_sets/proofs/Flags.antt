-- The flags of a set, from its words, and after one of them or all were changed.
use Rattle.std.proofs.Common.{◌≡◌, ℕ, zero, suc, ◌+◌, ◌*◌, ◌/◌, ◌%◌, ◌<◌, ◌≤◌, Bool, false, List, length, get_or, set, replicate, refl, ap, sym, ◌∙◌, subst, inl, inr, arith}
use Rattle.std.specs.Prelude.{min}
use Rattle.std.specs.Int.{div_ceil}
use Rattle.std.proofs.lemmas.Bool.{cases_eq, cases_lt}
use Rattle.std.proofs.lemmas.List.{ext_get_or, get_or_past, get_or-set_same, get_or-set_other, get_or-replicate, length-set, length-replicate}
use Rattle.era_base.specs.Bits.{bit_of, bit_of_words}
use Rattle.era_base.specs.Flags.{has, tabulate}
use Rattle.era_base.specs.Runs.{IsFirstWith}
use Rattle.era_sets.specs.Words.{ArePacked}
use Rattle.era_sets.proofs.WordBits.{bit_of-zero}

-- The flags of so many blocks, a bit of the words each.
abbrev pub flags_of : ℕ → List ℕ → List Bool
flags_of blocks words = tabulate 0 blocks (bit_of_words words)

length-tabulate : {A : Type 0} (first count : ℕ) (value : ℕ → A) → length (tabulate first count value) ≡ count
length-tabulate first zero value = refl
length-tabulate first (suc count) value = ap suc (length-tabulate (first + 1) count value)

get_or-tabulate : {A : Type 0} (first count : ℕ) (value : ℕ → A) (index : ℕ) (d : A) → index < count → get_or (tabulate first count value) index d ≡ value (first + index)
get_or-tabulate first zero value index d lt = absurd (omega arith)
get_or-tabulate first (suc count) value zero d lt = ap value (let e : first ≡ first + zero = omega arith in e)
get_or-tabulate first (suc count) value (suc index) d lt =
    get_or-tabulate (first + 1) count value index d (omega arith) ∙ ap value (let e : first + 1 + index ≡ first + suc index = omega arith in e)

pub length-flags : (blocks : ℕ) (words : List ℕ) → length (flags_of blocks words) ≡ blocks
length-flags blocks words = length-tabulate 0 blocks (bit_of_words words)

-- a set is of as many blocks as it has flags
pub blocks-of : (blocks : ℕ) (words : List ℕ) (flags : List Bool) → flags_of blocks words ≡ flags → blocks ≡ length flags
blocks-of blocks words flags are = sym (length-flags blocks words) ∙ ap length are

-- sets of as many blocks have as many words
pub same-words : (blocks blocks' : ℕ) (words words' : List ℕ) (flags flags' : List Bool) → flags_of blocks words ≡ flags → flags_of blocks' words' ≡ flags' → length flags' ≡ length flags
    → ArePacked blocks words → ArePacked blocks' words' → ArePacked blocks words'
same-words blocks blocks' words words' flags flags' are are' size packed packed' =
    let same : blocks' ≡ blocks = blocks-of blocks' words' flags' are' ∙ size ∙ sym (blocks-of blocks words flags are) in
    subst (λ n. ArePacked n words') same packed'

-- the word of a block is among the words
pub word-within : (blocks : ℕ) (words : List ℕ) (block : ℕ) → ArePacked blocks words → block < blocks → block / 64 < length words
word-within blocks words block packed within = let size = packed.size in omega arith

-- a flag below the end is its bit
flag-below : (blocks : ℕ) (words : List ℕ) (block : ℕ) → block < blocks → has (flags_of blocks words) block ≡ bit_of_words words block
flag-below blocks words block lt =
    get_or-tabulate 0 blocks (bit_of_words words) block false lt ∙ ap (bit_of_words words) (let e : 0 + block ≡ block = omega arith in e)

-- each flag is its bit, and past the end both are clear
pub flag-bit : (blocks : ℕ) (words : List ℕ) (block : ℕ) → ArePacked blocks words → has (flags_of blocks words) block ≡ bit_of_words words block
flag-bit blocks words block packed = elim (cases_lt block blocks) [
  | inl within ↦ flag-below blocks words block within
  | inr past ↦ get_or_past (flags_of blocks words) block false (let n = length-flags blocks words in omega arith) ∙ sym (packed.past block past)
]

-- words whose bits are those of the flags have these flags
pub flags-are : (blocks : ℕ) (words : List ℕ) (flags : List Bool) → length flags ≡ blocks → ((block : ℕ) → block < blocks → bit_of_words words block ≡ has flags block) → flags_of blocks words ≡ flags
flags-are blocks words flags size same =
    ext_get_or false (flags_of blocks words) flags (length-flags blocks words ∙ sym size)
    (λ block lt. let within : block < blocks = (let n = length-flags blocks words in omega arith) in flag-below blocks words block within ∙ same block within)

-- Words differ from others in one bit, which has this value.
pub record ChangesBit (words words' : List ℕ) (block : ℕ) (flag : Bool) : Type 0 where
  pub size : length words' ≡ length words
  pub changed : bit_of_words words' block ≡ flag
  pub others : (other : ℕ) → (other ≡ block → ⊥) → bit_of_words words' other ≡ bit_of_words words other

pub changed-packed : (blocks : ℕ) (words words' : List ℕ) (block : ℕ) (flag : Bool) → ArePacked blocks words → ChangesBit words words' block flag → block < blocks → ArePacked blocks words'
changed-packed blocks words words' block flag packed changes within = record {
  size = changes.size ∙ packed.size;
  past = λ other past. changes.others other (λ same. omega arith) ∙ packed.past other past;
}

-- the flag of the block was changed
pub changed-flags : (blocks : ℕ) (words words' : List ℕ) (block : ℕ) (flag : Bool) → ChangesBit words words' block flag → block < blocks
    → flags_of blocks words' ≡ set (flags_of blocks words) block flag
changed-flags blocks words words' block flag changes within =
    let flags = flags_of blocks words in
    let size = length-flags blocks words in
    flags-are blocks words' (set flags block flag) (length-set flags block flag ∙ size) (λ other lt. elim (cases_eq other block) [
      | inl same ↦ subst (λ b. bit_of_words words' b ≡ has (set flags block flag) b) (sym same)
          (changes.changed ∙ sym (get_or-set_same flags block flag false (omega arith)))
      | inr differs ↦ changes.others other differs ∙ sym (flag-below blocks words other lt) ∙ sym (get_or-set_other flags block other flag false differs)
    ])

-- words of 0 have no bit
pub zeros-clear : (count bit : ℕ) → bit_of_words (replicate count 0) bit ≡ false
zeros-clear count bit = elim (cases_lt (bit / 64) count) [
  | inl within ↦ ap (λ word. bit_of word (bit % 64)) (get_or-replicate count (bit / 64) 0 0 within) ∙ bit_of-zero (bit % 64)
  | inr past ↦ ap (λ word. bit_of word (bit % 64)) (get_or_past (replicate count 0) (bit / 64) 0 (let n : length (replicate {A = ℕ} count 0) ≡ count = length-replicate count 0 in omega arith)) ∙ bit_of-zero (bit % 64)
]

pub zeros-packed : (blocks count : ℕ) → count ≡ div_ceil blocks 64 → ArePacked blocks (replicate count 0)
zeros-packed blocks count size = record {
  size = length-replicate count 0 ∙ size;
  past = λ block past. zeros-clear count block;
}

pub zeros-flags : (blocks count : ℕ) → flags_of blocks (replicate count 0) ≡ replicate blocks false
zeros-flags blocks count = flags-are blocks (replicate count 0) (replicate blocks false) (length-replicate blocks false)
    (λ block lt. zeros-clear count block ∙ sym (get_or-replicate blocks block false false lt))

-- the first bit of a kind, or the number of blocks if that is less, is the first flag of it
pub first-flag : (blocks : ℕ) (words : List ℕ) (flag : Bool) (from bit : ℕ) → ArePacked blocks words → from ≤ blocks
    → IsFirstWith (bit_of_words words) flag from (64 * length words) bit → IsFirstWith (has (flags_of blocks words)) flag from blocks (min bit blocks)
first-flag blocks words flag from bit packed within first = let order = first.order in record {
  order = omega arith;
  within = omega arith;
  passed = λ block after before. flag-bit blocks words block packed ∙ first.passed block after (omega arith);
  found = λ lt.
      let here : min bit blocks ≡ bit = omega arith in
      let size = packed.size in
      rw here (flag-bit blocks words bit packed ∙ first.found (omega arith));
}
