-- Words that are numbers, and words that are none.
use Rattle.std.proofs.Common.{◌≡◌, ◌≢◌, ℕ, ◌<◌, ◌≤◌, ◌^◌, ◌&&◌, List, refl, ap, sym, ◌∙◌, arith}
use Rattle.std.specs.Prelude.{Bool, true, false, Option, Some, None, decimal, bytes_eq, nat_lt, if◌then◌else◌}
use Rattle.std.specs.Str.Parse.{digits_value}
use Rattle.std.proofs.lemmas.Bool.{lt-ltb, ltb-true, ne_eqb, and_parts}
use Rattle.std.proofs.lemmas.Fmt.{decimal_injective, decimal_is_IsNumeral}
use Rattle.std.proofs.lemmas.Slice.Eq.{bytes_eq-Decides}
use Rattle.era_plan.specs.Numbers.{count_of, number_of}

-- a value that is there where a test is passed
pub when-some : {A : Type 0} (test : Bool) (value other : A) → (if test then Some value else None) ≡ Some other → (test ≡ true) × (value ≡ other)
when-some true value other is = (refl, cc)
when-some false value other is = cc

-- one that isn't there, where it can't be
when-none : {A : Type 0} (test : Bool) (value : A) → (test ≡ true → ⊥) → (if test then Some value else None) ≡ None
when-none true value not = absurd (not refl)
when-none false value not = refl

-- a word that is a number is its decimal, below the limit
pub number-some : (limit number : ℕ) (word : List ℕ) → number_of limit word ≡ Some number → (word ≡ decimal number) × (number < limit)
number-some limit number word is =
    let value = digits_value 10 word in
    let found = when-some (nat_lt value limit && bytes_eq word (decimal value)) value number is in
    let parts = and_parts (nat_lt value limit) (bytes_eq word (decimal value)) found.0 in
    let below = ltb-true value limit parts.0 in
    let same = (bytes_eq-Decides word (decimal value)).0 parts.1 in
    (same ∙ ap decimal found.1, rw found.1 at below)

-- the number of a decimal
pub number-decimal : (limit number : ℕ) → limit ≤ 2 ^ 64 → number < limit → number_of limit (decimal number) ≡ Some number
number-decimal limit number most fits =
    let value = (decimal_is_IsNumeral number (omega arith)).1 in
    rw (value, lt-ltb number limit fits, (bytes_eq-Decides (decimal number) (decimal number)).1 refl) refl

-- a word that isn't the decimal of any number below the limit is no number
pub number-none : (limit : ℕ) (word : List ℕ) → ((number : ℕ) → number < limit → word ≢ decimal number) → number_of limit word ≡ None
number-none limit word none =
    let value = digits_value 10 word in
    when-none (nat_lt value limit && bytes_eq word (decimal value)) value
    (λ is.
    let parts = and_parts (nat_lt value limit) (bytes_eq word (decimal value)) is in
    none value (ltb-true value limit parts.0) ((bytes_eq-Decides word (decimal value)).0 parts.1))

-- what a reader of numbers answers, where it reads each number below the limit
pub number-read : (limit : ℕ) (word : List ℕ) (read : Option ℕ) → limit ≤ 2 ^ 64
    → ((number : ℕ) → read ≡ Some number → (word ≡ decimal number) × (number < limit))
    → (read ≡ None → (number : ℕ) → number < limit → word ≢ decimal number) → read ≡ number_of limit word
number-read limit word None most some none = sym (number-none limit word (none refl))
number-read limit word (Some number) most some none =
    let is = some number refl in
    sym (ap (number_of limit) is.0 ∙ number-decimal limit number most is.1)

-- the decimal of a number past the limit is no number
pub number-past : (limit number : ℕ) → number < 2 ^ 64 → limit ≤ number → number_of limit (decimal number) ≡ None
number-past limit number fits past =
    number-none limit (decimal number)
    (λ other below same. let is = decimal_injective number other fits (omega arith) same in omega arith)

-- the count of a decimal of 1 to 128
pub count-decimal : (count : ℕ) → 0 < count → count ≤ 128 → count_of (decimal count) ≡ Some count
count-decimal count some most =
    rw (number-decimal 129 count (omega arith) (omega arith), ne_eqb count 0 (λ none. omega arith)) refl

-- the decimal of a number past 128 is no count
pub count-past : (count : ℕ) → count < 2 ^ 64 → 128 < count → count_of (decimal count) ≡ None
count-past count fits past = rw (number-past 129 count fits (omega arith)) refl

-- nor is that of 0
pub count-none : (count : ℕ) → count ≤ 0 → count_of (decimal count) ≡ None
count-none count none =
    let zero : count ≡ 0 = omega arith in
    rw (zero, number-decimal 129 0 (omega arith) (omega arith)) refl
