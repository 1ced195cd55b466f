-- The lines of a text that begins with bytes among which is no LF.
use Rattle.std.proofs.Common.{◌≡◌, ◌≢◌, ℕ, ◌<◌, List, [], ◌∷◌, ◌++◌, length, ◌∙◌, refl, ap, arith, rules, tests}
use Rattle.std.proofs.lemmas.List.{length-append}
use Rattle.std.proofs.lemmas.List.Elements.{All-head, All-tail}
use Rattle.era_line.specs.Lines.{HasNo, byte_before, lines_of}
use Rattle.era_line.specs.Reading.{BeginsLong}

abbrev NotLf : ℕ → Type 0
NotLf byte = byte ≢ 10

-- an LF ends an empty line
lf_before : (lines : List (List ℕ)) → byte_before 10 lines ≡ [] ∷ lines
lf_before [] = refl
lf_before (line ∷ lines) = refl

-- any other byte begins the first line
other_before : (byte : ℕ) (line : List ℕ) (lines : List (List ℕ)) → byte ≢ 10 → byte_before byte (line ∷ lines) ≡ (byte ∷ line) ∷ lines
other_before byte line lines h = search (rules, tests)

other_alone : (byte : ℕ) → byte ≢ 10 → byte_before byte [] ≡ (byte ∷ []) ∷ []
other_alone byte h = search (rules, tests)

-- an LF behind them ends the first line
pub lines_of-ended : (front rest : List ℕ) → HasNo 10 front → lines_of (front ++ 10 ∷ rest) ≡ front ∷ lines_of rest
lines_of-ended [] rest h = lf_before (lines_of rest)
lines_of-ended (byte ∷ front) rest h =
    ap (byte_before byte) (lines_of-ended front rest (All-tail NotLf byte front h))
    ∙ other_before byte front (lines_of rest) (All-head NotLf byte front h)

-- at the end of the text they are its last line
pub lines_of-last : (front : List ℕ) → HasNo 10 front → front ≢ [] → lines_of front ≡ front ∷ []
lines_of-last [] h some = absurd (some refl)
lines_of-last (byte ∷ []) h some = other_alone byte (All-head NotLf byte [] h)
lines_of-last (byte ∷ next ∷ front) h some =
    ap (byte_before byte) (lines_of-last (next ∷ front) (All-tail NotLf byte (next ∷ front) h) (λ none. cc))
    ∙ other_before byte (next ∷ front) [] (All-head NotLf byte (next ∷ front) h)

-- the first line of a text that goes on behind them begins with them
pub record Begins (front : List ℕ) (lines : List (List ℕ)) : Type 0 where
  pub more : List ℕ
  pub after : List (List ℕ)
  pub split : lines ≡ (front ++ more) ∷ after

begins_one : (byte : ℕ) (lines : List (List ℕ)) → byte ≢ 10 → Begins (byte ∷ []) (byte_before byte lines)
begins_one byte [] h = record { more = []; after = []; split = other_alone byte h }
begins_one byte (line ∷ lines) h = record { more = line; after = lines; split = other_before byte line lines h }

pub lines_of-begins : (byte : ℕ) (front rest : List ℕ) → HasNo 10 (byte ∷ front) → Begins (byte ∷ front) (lines_of ((byte ∷ front) ++ rest))
lines_of-begins byte [] rest h = begins_one byte (lines_of rest) (All-head NotLf byte [] h)
lines_of-begins byte (next ∷ front) rest h =
    let behind = lines_of-begins next front rest (All-tail NotLf byte (next ∷ front) h) in
    record {
      more = behind.more;
      after = behind.after;
      split = ap (byte_before byte) behind.split
          ∙ other_before byte ((next ∷ front) ++ behind.more) behind.after (All-head NotLf byte (next ∷ front) h);
    }

-- so the first line is too long where they are too many
pub BeginsLong-front : (most : ℕ) (front rest : List ℕ) → HasNo 10 front → most < length front → BeginsLong most (front ++ rest)
BeginsLong-front most [] rest h long = absurd (omega arith)
BeginsLong-front most (byte ∷ front) rest h long =
    let begins = lines_of-begins byte front rest h in
    record {
      line = (byte ∷ front) ++ begins.more;
      after = begins.after;
      first = begins.split;
      long = let size = length-append (byte ∷ front) begins.more in omega arith;
    }
