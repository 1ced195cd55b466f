-- Texts that are made of lines, and the lines of texts that end with an LF.
use Rattle.std.proofs.Common.{◌≡◌, ◌≢◌, ℕ, Bool, true, false, List, [], ◌∷◌, ◌++◌, sym, ◌∙◌, refl, ap}
use Rattle.std.specs.Prelude.{All, ◌==◌, if◌then◌else◌}
use Rattle.std.proofs.lemmas.Bool.{eqb-true}
use Rattle.std.proofs.lemmas.List.Elements.{All-head, All-tail}
use Rattle.era_line.specs.Lines.{HasNo, byte_before, lines_of, lines_text}
use Rattle.era_line.proofs.Lines.{lines_of-ended}

-- lines without LFs are those of the text that is made of them
abbrev HasNoLfs : List ℕ → Type 0
HasNoLfs line = HasNo 10 line

pub lines_of-text : (lines : List (List ℕ)) → All HasNoLfs lines → lines_of (lines_text lines) ≡ lines
lines_of-text [] all = refl
lines_of-text (line ∷ lines) all =
    lines_of-ended line (lines_text lines) (All-head HasNoLfs line lines all)
    ∙ ap (λ l. line ∷ l) (lines_of-text lines (All-tail HasNoLfs line lines all))

-- a text that ends with an LF is its lines
text_if : (is : Bool) (byte : ℕ) (line : List ℕ) (lines : List (List ℕ)) → (byte == 10) ≡ is
    → lines_text (if is then [] ∷ line ∷ lines else (byte ∷ line) ∷ lines) ≡ byte ∷ lines_text (line ∷ lines)
text_if true byte line lines e = ap (λ b. b ∷ lines_text (line ∷ lines)) (sym (eqb-true byte 10 e))
text_if false byte line lines e = refl

text_before : (byte : ℕ) (lines : List (List ℕ)) → lines ≢ [] → lines_text (byte_before byte lines) ≡ byte ∷ lines_text lines
text_before byte [] some = absurd (some refl)
text_before byte (line ∷ lines) some = text_if (byte == 10) byte line lines refl

some_line_if : (is : Bool) (byte : ℕ) (line : List ℕ) (lines : List (List ℕ)) → (if is then [] ∷ line ∷ lines else (byte ∷ line) ∷ lines) ≢ []
some_line_if true byte line lines e = cc
some_line_if false byte line lines e = cc

some_line_before : (byte : ℕ) (lines : List (List ℕ)) → lines ≢ [] → byte_before byte lines ≢ []
some_line_before byte [] some e = some refl
some_line_before byte (line ∷ lines) some e = some_line_if (byte == 10) byte line lines e

some_line : (text : List ℕ) → lines_of (text ++ 10 ∷ []) ≢ []
some_line [] e = cc
some_line (byte ∷ text) e = some_line_before byte (lines_of (text ++ 10 ∷ [])) (some_line text) e

pub lines_text-of : (text : List ℕ) → lines_text (lines_of (text ++ 10 ∷ [])) ≡ text ++ 10 ∷ []
lines_text-of [] = refl
lines_text-of (byte ∷ text) =
    text_before byte (lines_of (text ++ 10 ∷ [])) (some_line text) ∙ ap (λ l. byte ∷ l) (lines_text-of text)
