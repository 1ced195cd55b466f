-- The words of a line, one after another.
use Rattle.std.proofs.Common.{◌≡◌, ◌≢◌, ℕ, Bool, true, false, List, [], ◌∷◌, ◌++◌, Option, Some, None, Bor, sym, ◌∙◌, refl, ap, subst, rules, tests}
use Rattle.std.specs.Prelude.{All, IfSome, IfNone, ◌==◌, if◌then◌else◌}
use Rattle.std.proofs.lemmas.Bool.{eqb-true}
use Rattle.std.proofs.lemmas.List.{append-nil}
use Rattle.std.proofs.lemmas.List.Elements.{All-nil, All-cons, All-head, All-tail}
use Rattle.era_line.specs.Lines.{HasNo}
use Rattle.era_line.specs.Cuts.{IsCut}
use Rattle.era_line.specs.Words.{letter_before, words_of, more_words, spaced}

abbrev NotSpace : ℕ → Type 0
NotSpace byte = byte ≢ 32

-- any byte but a space begins the first word
other_before : (byte : ℕ) (word : List ℕ) (words : List (List ℕ)) → byte ≢ 32 → letter_before byte (word ∷ words) ≡ (byte ∷ word) ∷ words
other_before byte word words h = search (rules, tests)

-- bytes without a space are a word
pub words_of-whole : (word : List ℕ) → HasNo 32 word → words_of word ≡ word ∷ []
words_of-whole [] h = refl
words_of-whole (byte ∷ word) h =
    ap (letter_before byte) (words_of-whole word (All-tail NotSpace byte word h)) ∙ other_before byte word [] (All-head NotSpace byte word h)

-- every line has a word
some_before : (is : Bool) (byte : ℕ) (word : List ℕ) (words : List (List ℕ)) → (if is then [] ∷ word ∷ words else (byte ∷ word) ∷ words) ≢ []
some_before true byte word words e = cc
some_before false byte word words e = cc

has_word_before : (byte : ℕ) (words : List (List ℕ)) → letter_before byte words ≢ []
has_word_before byte [] e = cc
has_word_before byte (word ∷ words) e = some_before (byte == 32) byte word words e

pub words_of-some : (line : List ℕ) → words_of line ≢ []
words_of-some [] e = cc
words_of-some (byte ∷ line) e = has_word_before byte (words_of line) e

-- a space in front of a line ends an empty word
space_before : (words : List (List ℕ)) → words ≢ [] → letter_before 32 words ≡ [] ∷ words
space_before [] some = absurd (some refl)
space_before (word ∷ words) some = refl

-- bytes without a space, and a space behind them, are the first word
pub words_of-cut : (word rest : List ℕ) → HasNo 32 word → words_of (word ++ 32 ∷ rest) ≡ word ∷ words_of rest
words_of-cut [] rest h = space_before (words_of rest) (words_of-some rest)
words_of-cut (byte ∷ word) rest h =
    ap (letter_before byte) (words_of-cut word rest (All-tail NotSpace byte word h))
    ∙ other_before byte word (words_of rest) (All-head NotSpace byte word h)

-- what a cut at the first space tells of the words
pub words_cut : (line : List ℕ) (parts : Option (Bor (List ℕ) × Bor (List ℕ))) → IfSome parts (λ p. IsCut 32 line p.0.now p.1.now)
    → IfSome parts (λ p. words_of line ≡ p.0.now ∷ words_of p.1.now)
words_cut line None cut = tt
words_cut line (Some p) cut = ap words_of cut.joined ∙ words_of-cut p.0.now p.1.now cut.first

pub words_uncut : (line : List ℕ) (parts : Option (Bor (List ℕ) × Bor (List ℕ))) → IfNone parts (HasNo 32 line) → IfNone parts (words_of line ≡ line ∷ [])
words_uncut line None whole = words_of-whole line whole
words_uncut line (Some p) whole = tt

-- a line is its words with spaces between them
spaced_if : (is : Bool) (byte : ℕ) (word : List ℕ) (words : List (List ℕ)) → (byte == 32) ≡ is
    → spaced (if is then [] ∷ word ∷ words else (byte ∷ word) ∷ words) ≡ byte ∷ spaced (word ∷ words)
spaced_if true byte word words e = ap (λ b. b ∷ spaced (word ∷ words)) (sym (eqb-true byte 32 e))
spaced_if false byte word words e = refl

spaced_before : (byte : ℕ) (words : List (List ℕ)) → words ≢ [] → spaced (letter_before byte words) ≡ byte ∷ spaced words
spaced_before byte [] some = absurd (some refl)
spaced_before byte (word ∷ words) some = spaced_if (byte == 32) byte word words refl

pub spaced-words_of : (line : List ℕ) → spaced (words_of line) ≡ line
spaced-words_of [] = refl
spaced-words_of (byte ∷ line) =
    spaced_before byte (words_of line) (words_of-some line) ∙ ap (λ l. byte ∷ l) (spaced-words_of line)

-- words without spaces are those of the line that is made of them
abbrev HasNoSpaces : List ℕ → Type 0
HasNoSpaces word = HasNo 32 word

words_of-more : (word : List ℕ) (words : List (List ℕ)) → HasNo 32 word → All HasNoSpaces words → words_of (word ++ more_words words) ≡ word ∷ words
words_of-more word [] h all = ap words_of (append-nil word) ∙ words_of-whole word h
words_of-more word (next ∷ words) h all =
    words_of-cut word (next ++ more_words words) h
    ∙ ap (λ l. word ∷ l) (words_of-more next words (All-head HasNoSpaces next words all) (All-tail HasNoSpaces next words all))

pub words_of-spaced : (words : List (List ℕ)) → words ≢ [] → All HasNoSpaces words → words_of (spaced words) ≡ words
words_of-spaced [] some all = absurd (some refl)
words_of-spaced (word ∷ words) some all =
    words_of-more word words (All-head HasNoSpaces word words all) (All-tail HasNoSpaces word words all)

-- no word has a space
no_space_if : (is : Bool) (byte : ℕ) (word : List ℕ) (words : List (List ℕ)) → (byte == 32) ≡ is → All HasNoSpaces (word ∷ words)
    → All HasNoSpaces (if is then [] ∷ word ∷ words else (byte ∷ word) ∷ words)
no_space_if true byte word words e all = All-cons HasNoSpaces [] (word ∷ words) (All-nil NotSpace) all
no_space_if false byte word words e all =
    All-cons HasNoSpaces (byte ∷ word) words
    (All-cons NotSpace byte word (search (rules, tests)) (All-head HasNoSpaces word words all)) (All-tail HasNoSpaces word words all)

no_space_before : (byte : ℕ) (words : List (List ℕ)) → words ≢ [] → All HasNoSpaces words → All HasNoSpaces (letter_before byte words)
no_space_before byte [] some all = absurd (some refl)
no_space_before byte (word ∷ words) some all = no_space_if (byte == 32) byte word words refl all

pub HasNo-words : (line : List ℕ) → All HasNoSpaces (words_of line)
HasNo-words [] = All-cons HasNoSpaces [] [] (All-nil NotSpace) (All-nil HasNoSpaces)
HasNo-words (byte ∷ line) = no_space_before byte (words_of line) (words_of-some line) (HasNo-words line)
