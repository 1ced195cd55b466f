-- Where a byte cuts a text for the first time.
use Rattle.std.specs.Prelude.{◌≡◌, ℕ, List, ◌∷◌, ◌++◌}
use Rattle.era_line.specs.Lines.{HasNo}

-- A text is these bytes, then the separator for the first time, and then the rest.
pub record IsCut (separator : ℕ) (text front rest : List ℕ) : Type 0 where
  pub joined : text ≡ front ++ separator ∷ rest
  pub first : HasNo separator front
