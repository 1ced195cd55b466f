-- A text that is given in pieces: what the sink has of it, and what the buffer holds.
use Rattle.std.specs.Prelude.{◌≡◌, ℕ, List, [], ◌++◌, take, Option, Some, Result, MatchResult}
use Rattle.era_base.specs.Streams.{GivesFront}
use Rattle.era_line.specs.declared.text_buffer.TextBuffer.{TextBuffer}

-- The text that the buffer holds.
abbrev pub held_by : TextBuffer → List ℕ
held_by buffer = take buffer.held buffer.bytes

-- Of a text that goes on behind what was given before, a front was given, and the buffer holds the rest.
pub record Gathers (before text : List ℕ) (given : Option (List ℕ)) (buffer : TextBuffer) : Type 0 where
  pub front : List ℕ
  pub told : given ≡ Some (before ++ front)
  pub rest : front ++ held_by buffer ≡ text

-- The buffer holds nothing: whatever was given is a whole text, behind which another one begins.
abbrev pub IsEmpty : TextBuffer → Type 0
IsEmpty buffer = (before : List ℕ) (given : Option (List ℕ)) → given ≡ Some before → Gathers before [] given buffer

-- The text went on by these bytes; or the sink failed, and was given a front of the text and of these bytes behind what it was given before.
abbrev pub Adds : {T E : Type 0} → Option (List ℕ) → TextBuffer → Option (List ℕ) → TextBuffer → List ℕ → Result T E → Type 0
Adds given buffer given' buffer' bytes result =
    (before text : List ℕ) → Gathers before text given buffer
    → MatchResult result (λ _. Gathers before (text ++ bytes) given' buffer') (λ _. GivesFront before (text ++ bytes) given')

-- The whole text was given; or the sink failed, and was given a front of the text.
abbrev pub Flushes : {T E : Type 0} → Option (List ℕ) → TextBuffer → Option (List ℕ) → Result T E → Type 0
Flushes given buffer given' result =
    (before text : List ℕ) → Gathers before text given buffer
    → MatchResult result (λ _. given' ≡ Some (before ++ text)) (λ _. GivesFront before text given')
