-- Numbers at the beginning of a text.
use Rattle.std.specs.Prelude.{◌≡◌, ◌≢◌, ℕ, ◌<◌, List, ◌∷◌, ◌++◌, decimal}

-- A text begins with a number below a limit, and a separator stands behind it.
pub record BeginsWith (limit separator : ℕ) (text : List ℕ) (number : ℕ) (rest : List ℕ) : Type 0 where
  pub spelled : text ≡ decimal number ++ separator ∷ rest
  pub fits : number < limit

-- No number below a limit with a separator behind it begins a text.
abbrev pub BeginsWithNo : ℕ → ℕ → List ℕ → Type 0
BeginsWithNo limit separator text = (number : ℕ) (rest : List ℕ) → BeginsWith limit separator text number rest → ⊥
