use Rattle.std.proofs.Common.{rules, sym, subst}
use Rattle.era_gate.specs.Calls.{PassToken}
use Rattle.era_gate.specs.Passes.{AreJoined}
use Rattle.era_gate.proofs.PassKept.{lanes_joined}
use Rattle.era_gate.proofs.gate.Gate.join_pass.Goals as goal

pub returns-clause-pass : goal.returns-clause-pass
returns-clause-pass c = search rules

pub returns-clause-joined : goal.returns-clause-joined
returns-clause-joined c =
    subst (λ (t : PassToken). AreJoined c.args.pass.now.part.lanes c.args.other.part.lanes t.part.lanes) (sym (returns-clause-pass c)) (lanes_joined c.args.pass.now.part.lanes c.args.other.part.lanes)
