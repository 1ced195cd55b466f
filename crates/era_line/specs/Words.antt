-- The words of a line, and lines that are made of words.
use Rattle.std.specs.Prelude.{ℕ, ◌==◌, if◌then◌else◌, List, [], ◌∷◌, ◌++◌}

-- A byte in front of a line with these words: a space ends an empty word there, any other byte begins the first of them.
abbrev pub letter_before : ℕ → List (List ℕ) → List (List ℕ)
letter_before byte [] = (byte ∷ []) ∷ []
letter_before byte (word ∷ words) = if byte == 32 then [] ∷ word ∷ words else (byte ∷ word) ∷ words

-- The words of a line: what stands between single spaces. So two spaces make an empty word, and every line has a word.
abbrev pub words_of : List ℕ → List (List ℕ)
words_of [] = [] ∷ []
words_of (byte ∷ line) = letter_before byte (words_of line)

-- Further words of a line, each behind a space.
abbrev pub more_words : List (List ℕ) → List ℕ
more_words [] = []
more_words (word ∷ words) = 32 ∷ word ++ more_words words

-- The line that has these words.
abbrev pub spaced : List (List ℕ) → List ℕ
spaced [] = []
spaced (word ∷ words) = word ++ more_words words
