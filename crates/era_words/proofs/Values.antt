-- An argument has one value at most, and so one number.
use Rattle.std.proofs.Common.{◌≡◌, ℕ, ◌<◌, ◌^◌, sym, ◌∙◌}
use Rattle.std.specs.Prelude.{Option, Some, decimal}
use Rattle.std.proofs.lemmas.Fmt.{decimal_injective}
use Rattle.clap.specs.Words.{Text}

-- two texts of one value are equal
pub one_text : (value : Option Text) (a b : Text) → value ≡ Some a → value ≡ Some b → a ≡ b
one_text value a b e e' = cc

-- two numbers of one value are equal
pub one_number : (value : Option Text) (text : Text) (m n : ℕ) → m < 2 ^ 64 → n < 2 ^ 64 → value ≡ Some text → text ≡ decimal m → value ≡ Some (decimal n) → m ≡ n
one_number value text m n small small' e is e' = decimal_injective m n small small' (sym is ∙ one_text value text (decimal n) e e')
