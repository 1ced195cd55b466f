-- The lines of a text.
use Rattle.std.specs.Prelude.{◌≢◌, ℕ, ◌==◌, if◌then◌else◌, List, [], ◌∷◌, ◌++◌, All}

-- None of the bytes is this one.
abbrev pub HasNo : ℕ → List ℕ → Type 0
HasNo separator bytes = All (λ byte. byte ≢ separator) bytes

-- A byte in front of a text with these lines: an LF ends an empty line there, any other byte begins the first of them.
abbrev pub byte_before : ℕ → List (List ℕ) → List (List ℕ)
byte_before byte [] = if byte == 10 then [] ∷ [] else (byte ∷ []) ∷ []
byte_before byte (line ∷ lines) = if byte == 10 then [] ∷ line ∷ lines else (byte ∷ line) ∷ lines

-- The lines of a text: the bytes up to an LF or the end. Nothing behind the last LF is no line.
abbrev pub lines_of : List ℕ → List (List ℕ)
lines_of [] = []
lines_of (byte ∷ text) = byte_before byte (lines_of text)

-- The text that has these lines, each of them with an LF.
abbrev pub lines_text : List (List ℕ) → List ℕ
lines_text [] = []
lines_text (line ∷ lines) = line ++ 10 ∷ lines_text lines
