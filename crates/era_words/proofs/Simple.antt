-- What is known of a command that is simple and whose arguments are free of each other.
use Rattle.std.proofs.Common.{◌≡◌, Bool, true, false}
use Rattle.std.specs.Prelude.{◌&&◌}
use Rattle.clap.specs.Words.{App, is_simple, is_simple_and_free}

-- both sides of a true conjunction are true
first_of_both : (a b : Bool) → (a && b) ≡ true → a ≡ true
first_of_both true b e = cc
first_of_both false b e = cc

-- such a command is simple
pub simple : (a : App) → is_simple_and_free a ≡ true → is_simple a ≡ true
simple a e = first_of_both (is_simple a) _ e
