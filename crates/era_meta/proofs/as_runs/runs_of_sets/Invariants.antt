use Rattle.std.proofs.Common.{◌≡◌, ℕ, length, take}
use Rattle.std.specs.List.{AllByRecursion}
use Rattle.era_meta.specs.AsRuns.{TellSets}
use Rattle.era_meta.proofs.as_runs.runs_of_sets.Given as goal

-- the sets so far are told
abbrev pub invariant-loop-set : goal.invariant-loop-set
invariant-loop-set l = (blocks : ℕ) → AllByRecursion (λ set. length set.blocks ≡ blocks) l.sets → TellSets l.told blocks (take l.set-index l.sets)
