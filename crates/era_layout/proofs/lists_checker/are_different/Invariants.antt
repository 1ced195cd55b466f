use Rattle.std.proofs.Common.{ℕ, ◌<◌, ◌≢◌, get_or}
use Rattle.era_layout.proofs.lists_checker.are_different.Given as goal

abbrev pub invariant-loop-index : goal.invariant-loop-index
invariant-loop-index l = (first second : ℕ) → first < second → second < l.index → get_or l.pages first 0 ≢ get_or l.pages second 0
