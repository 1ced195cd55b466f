-- The words of a line that was written, and the numbers that they are read as.
use Rattle.std.proofs.Common.{◌≡◌, ◌≢◌, ℕ, ◌+◌, ◌<◌, ◌≤◌, ◌^◌, ◌==◌, ◌&&◌, List, [], ◌∷◌, ◌++◌, length, refl, ap, ◌∙◌, subst, arith}
use Rattle.std.specs.Prelude.{Some, None, Bool, true, false, not, decimal, bytes_eq, nat_lt, if◌then◌else◌}
use Rattle.std.specs.Str.Parse.{digits_value}
use Rattle.std.proofs.lemmas.Bool.{lt-ltb, ltb-true, eq-eqb, and_parts, false≢true}
use Rattle.std.proofs.lemmas.List.Elements.{All-nil, All-cons, All-push}
use Rattle.std.proofs.lemmas.Fmt.{decimal_by_steps, decimal_is_IsNumeral, length-decimal-le}
use Rattle.std.proofs.lemmas.Slice.Eq.{bytes_eq-Decides}
use Rattle.era_line.specs.Lines.{HasNo}
use Rattle.era_line.specs.Words.{words_of}
use Rattle.era_line.proofs.WordSteps.{words_of-cut, words_of-whole}
use Rattle.era_text.specs.Numbers.{number_of}

-- whether no byte is the mark
abbrev pub lacks : ℕ → List ℕ → Bool
lacks mark [] = true
lacks mark (byte ∷ bytes) = not (byte == mark) && lacks mark bytes

-- a text that is written out has none
pub none-written : (mark : ℕ) (bytes : List ℕ) → lacks mark bytes ≡ true → HasNo mark bytes
none-written mark [] is = All-nil (λ byte. byte ≢ mark)
none-written mark (byte ∷ bytes) is =
    let parts = and_parts (not (byte == mark)) (lacks mark bytes) is in
    All-cons (λ byte. byte ≢ mark) byte bytes
    (λ same. false≢true (rw (eq-eqb byte mark same) at parts.0)) (none-written mark bytes parts.1)

-- a decimal has digits alone
pub HasNo-decimal : (mark n : ℕ) → mark < 48 → n < 2 ^ 64 → HasNo mark (decimal n)
HasNo-decimal mark n below fits =
    let Not : ℕ → Type 0 = λ byte. byte ≢ mark in
    decimal_by_steps
    (λ _ word. HasNo mark word)
    (λ (m : ℕ) small. All-cons Not (48 + m) [] (λ e. omega arith) (All-nil Not))
    (λ (m : ℕ) (word : List ℕ) large p. All-push Not word _ p (λ e. omega arith))
    n fits

-- equal bytes pass the test
pub bytes_eq-same : (bytes : List ℕ) → bytes_eq bytes bytes ≡ true
bytes_eq-same bytes = (bytes_eq-Decides bytes bytes).1 refl

-- the words of two numbers
pub words-two : (a b : ℕ) → a < 2 ^ 64 → b < 2 ^ 64 → words_of (decimal a ++ 32 ∷ decimal b) ≡ decimal a ∷ decimal b ∷ []
words-two a b fits fits' =
    words_of-cut (decimal a) (decimal b) (HasNo-decimal 32 a (omega arith) fits)
    ∙ ap (λ words. decimal a ∷ words) (words_of-whole (decimal b) (HasNo-decimal 32 b (omega arith) fits'))

-- the words of three numbers
pub words-three : (a b c : ℕ) → a < 2 ^ 64 → b < 2 ^ 64 → c < 2 ^ 64
    → words_of (decimal a ++ 32 ∷ (decimal b ++ 32 ∷ decimal c)) ≡ decimal a ∷ decimal b ∷ decimal c ∷ []
words-three a b c fits fits' fits'' =
    words_of-cut (decimal a) (decimal b ++ 32 ∷ decimal c) (HasNo-decimal 32 a (omega arith) fits)
    ∙ ap (λ words. decimal a ∷ words) (words-two b c fits' fits'')

-- the number of a decimal
pub number-decimal : (limit n : ℕ) → limit ≤ 2 ^ 64 → n < limit → number_of limit (decimal n) ≡ Some n
number-decimal limit n most fits =
    let value = (decimal_is_IsNumeral n (omega arith)).1 in
    rw (value, lt-ltb n limit fits, bytes_eq-same (decimal n)) refl

-- a word that is a number is its decimal
pub number-some : (limit n : ℕ) (word : List ℕ) → number_of limit word ≡ Some n → (word ≡ decimal n) × (n < limit)
number-some limit n word is =
    let value = digits_value 10 word in
    let by = elim (nat_lt value limit) as (λ fits. nat_lt value limit ≡ fits
    → (if fits && bytes_eq word (decimal value) then Some value else None) ≡ Some n → (word ≡ decimal n) × (n < limit)) [
      | true ↦ λ fits. elim (bytes_eq word (decimal value)) as (λ same. bytes_eq word (decimal value) ≡ same
          → (if same then Some value else None) ≡ Some n → (word ≡ decimal n) × (n < limit)) [
            | true ↦ λ same found.
                let is_n : value ≡ n = cc in
                let equal = (bytes_eq-Decides word (decimal value)).0 same in
                (equal ∙ ap decimal is_n, subst (λ number. number < limit) is_n (ltb-true value limit fits))
            | false ↦ λ same found. cc
          ] refl
      | false ↦ λ fits found. cc
    ] in by refl is

-- a decimal of 32 bits has at most 10 digits, one of 64 bits at most 20
pub length-word : (n : ℕ) → n < 2 ^ 32 → length (decimal n) ≤ 10
length-word n fits = length-decimal-le 10 n (omega arith) (omega arith) (omega arith)

pub length-double : (n : ℕ) → n < 2 ^ 64 → length (decimal n) ≤ 20
length-double n fits = length-decimal-le 20 n (omega arith) (omega arith) fits
