-- Lists by index: a list of flags, such as one flag a block, and the list of a function's values.
use Rattle.std.specs.Prelude.{ℕ, zero, suc, ◌+◌, Bool, false, List, [], ◌∷◌, slice_index_or}

-- The flag at an index of a list; past the end it is clear.
abbrev pub has : List Bool → ℕ → Bool
has flags index = slice_index_or flags index false

-- The values of a function at so many numbers, from the first one on.
abbrev pub tabulate : {A : Type 0} → ℕ → ℕ → (ℕ → A) → List A
tabulate first zero value = []
tabulate first (suc count) value = value first ∷ tabulate (first + 1) count value
