use Rattle.std.proofs.Common.{◌≡◌, ℕ, ◌*◌, ◌<◌, ◌≤◌, not}
use Rattle.era_base.specs.Bits.{bit_of_words}
use Rattle.era_sets.proofs.words.first_bit.Given as goal

-- no bit of the words before is of the kind
abbrev pub invariant-loop-at : goal.invariant-loop-at
invariant-loop-at l = (bit : ℕ) → l.from ≤ bit → bit < 64 * l.at → bit_of_words l.words bit ≡ not l.flag
