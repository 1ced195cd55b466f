-- A text is cut in one way where a separator stands in it for the first time.
use Rattle.std.proofs.Common.{◌≡◌, ◌≢◌, ℕ, ◌+◌, ◌<◌, ◌≤◌, ◌^◌, List, [], ◌∷◌, ◌++◌, Option, Some, None, IfNone, sym, ◌∙◌, refl, arith}
use Rattle.std.specs.Prelude.{decimal}
use Rattle.std.proofs.lemmas.List.Elements.{All-nil, All-cons, All-head, All-tail, All-push}
use Rattle.std.proofs.lemmas.Fmt.{decimal_by_steps, decimal_injective}
use Rattle.era_line.specs.Lines.{HasNo}
use Rattle.era_line.specs.Cuts.{IsCut}
use Rattle.era_line.specs.Numbers.{BeginsWith, BeginsWithNo}

-- a byte is another one than the separator
abbrev pub IsOther : ℕ → ℕ → Type 0
IsOther separator byte = byte ≢ separator

-- a fact that holds anyway also holds where there is no value
pub if_none : {A : Type 0} {P : Type 0} (o : Option A) → P → IfNone o P
if_none None p = p
if_none (Some x) p = tt

-- a text with a separator has one
pub separator_within : (separator : ℕ) (front back : List ℕ) → HasNo separator (front ++ separator ∷ back) → ⊥
separator_within separator [] back h = All-head (IsOther separator) separator back h refl
separator_within separator (byte ∷ front) back h = separator_within separator front back (All-tail (IsOther separator) byte (front ++ separator ∷ back) h)

-- a text without a separator isn't cut by one
pub uncut : (separator : ℕ) (text front back : List ℕ) → HasNo separator text → text ≡ front ++ separator ∷ back → ⊥
uncut separator text front back h e = separator_within separator front back (rw e at h)

-- the first separator cuts a text in one way
pub split_same : (separator : ℕ) (a b x y : List ℕ) → HasNo separator a → HasNo separator b → a ++ separator ∷ x ≡ b ++ separator ∷ y → (a ≡ b) × (x ≡ y)
split_same separator [] [] x y p q e = (refl, cc)
split_same separator [] (d ∷ b) x y p q e = absurd (All-head (IsOther separator) d b q cc)
split_same separator (c ∷ a) [] x y p q e = absurd (All-head (IsOther separator) c a p cc)
split_same separator (c ∷ a) (d ∷ b) x y p q e =
    let tail : a ++ separator ∷ x ≡ b ++ separator ∷ y = cc in
    let head : c ≡ d = cc in
    let r = split_same separator a b x y (All-tail (IsOther separator) c a p) (All-tail (IsOther separator) d b q) tail in
    (cc, r.1)

-- two cuts of one text at its first separator are the same
pub cut_same : (separator : ℕ) (text a b x y : List ℕ) → HasNo separator a → HasNo separator b → text ≡ a ++ separator ∷ x → text ≡ b ++ separator ∷ y → (a ≡ b) × (x ≡ y)
cut_same separator text a b x y p q e f = split_same separator a b x y p q (sym e ∙ f)

-- a decimal has no byte below its digits
pub HasNo-decimal : (separator n : ℕ) → separator < 48 → n < 2 ^ 64 → HasNo separator (decimal n)
HasNo-decimal separator n low h =
    decimal_by_steps
    (λ _ word. HasNo separator word)
    (λ (m : ℕ) small. All-cons (IsOther separator) (48 + m) [] (λ e. omega arith) (All-nil (IsOther separator)))
    (λ (m : ℕ) (word : List ℕ) large p. All-push (IsOther separator) word _ p (λ e. omega arith))
    n h

-- without a separator there is no number in front of one
pub no_separator : (limit separator : ℕ) (text : List ℕ) → HasNo separator text → BeginsWithNo limit separator text
no_separator limit separator text h number rest begins = uncut separator text (decimal number) rest h begins.spelled

-- what stands in front of the first separator is no number
pub no_number : (limit separator : ℕ) (text front back : List ℕ) → separator < 48 → limit ≤ 2 ^ 64 → IsCut separator text front back
    → ((value : ℕ) → value < limit → front ≢ decimal value) → BeginsWithNo limit separator text
no_number limit separator text front back low most cut none number rest begins =
    let fits = begins.fits in
    let same = cut_same separator text front (decimal number) back rest cut.first (HasNo-decimal separator number low (omega arith)) cut.joined begins.spelled in
    none number fits same.0

-- a text begins with one number
pub begins_same : (limit separator : ℕ) (text : List ℕ) (number other : ℕ) (rest back : List ℕ) → separator < 48 → limit ≤ 2 ^ 64
    → BeginsWith limit separator text number rest → text ≡ decimal other ++ separator ∷ back → other < 2 ^ 64 → (number ≡ other) × (rest ≡ back)
begins_same limit separator text number other rest back low most begins is fits =
    let within = begins.fits in
    let same = cut_same separator text (decimal number) (decimal other) rest back (HasNo-decimal separator number low (omega arith))
    (HasNo-decimal separator other low fits) begins.spelled is in
    (decimal_injective number other (omega arith) fits same.0, same.1)
