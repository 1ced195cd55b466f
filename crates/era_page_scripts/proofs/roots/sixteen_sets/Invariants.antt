use Rattle.std.proofs.Common.{◌≡◌, length}
use Rattle.era_page_scripts.proofs.roots.sixteen_sets.Given as goal

abbrev pub invariant-loop-index : goal.invariant-loop-index
invariant-loop-index l = length l.sets ≡ l.index
