use Rattle.std.proofs.Common.{◌≤◌, ℕ, arith}
use Rattle.std.proofs.lemmas.List.Elements.{All-replicate}
use Rattle.era_plan.proofs.counts.Counts.new.Goals as goal

pub invariant_of-result-clause-within : goal.invariant_of-result-clause-within
invariant_of-result-clause-within c = All-replicate (λ (count : ℕ). count ≤ 0) 64 0 (omega arith)
