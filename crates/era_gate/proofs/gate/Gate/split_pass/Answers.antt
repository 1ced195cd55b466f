use Rattle.std.proofs.Common.{rules}
use Rattle.era_gate.specs.Calls.{PassToken}
use Rattle.era_gate.specs.Passes.{AreCutAt}
use Rattle.era_gate.proofs.PassKept.{lanes_cut, of_both}
use Rattle.era_gate.proofs.gate.Gate.split_pass.Goals as goal

pub returns-clause-pass : goal.returns-clause-pass
returns-clause-pass c = search rules

pub returns-clause-other : goal.returns-clause-other
returns-clause-other c = search rules

pub returns-clause-cut : goal.returns-clause-cut
returns-clause-cut c =
    of_both (λ (low high : PassToken). AreCutAt c.args.first c.args.pass.now.part.lanes low.part.lanes high.part.lanes) _ _ _ _ (returns-clause-pass c) (returns-clause-other c) (lanes_cut c.args.first c.args.pass.now.part.lanes)
