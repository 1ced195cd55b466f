-- What the reader's own steps say of the text behind the parts that were read.
use Rattle.std.specs.Prelude.{◌≢◌, ℕ, ◌<◌, ◌^◌, List, ◌∷◌, ◌++◌, decimal}
use Rattle.era_line.specs.TableLine.{IsName}

-- No decimal of 64 bits with a space behind it begins a text.
abbrev pub BeginsWithNoNumber : List ℕ → Type 0
BeginsWithNoNumber text = (value : ℕ) (rest : List ℕ) → value < 2 ^ 64 → text ≢ decimal value ++ 32 ∷ rest

-- No name with a space behind it begins a text.
abbrev pub BeginsWithNoName : List ℕ → Type 0
BeginsWithNoName text = (name rest : List ℕ) → IsName name → text ≢ name ++ 32 ∷ rest
