use Rattle.std.proofs.Common.{rules, sym, subst}
use Rattle.era_gate.specs.Calls.{stay_of}
use Rattle.era_gate.specs.Passes.{KeepsPass, no_write}
use Rattle.era_gate.proofs.PassKept.{enter_keeps}
use Rattle.era_gate.proofs.gate.Gate.enter.Goals as goal

pub returns-clause-pass : goal.returns-clause-pass
returns-clause-pass c = search rules

pub returns-clause-keeps : goal.returns-clause-keeps
returns-clause-keeps c =
    subst (KeepsPass 0 no_write c.args.pass.now) (sym (returns-clause-pass c)) (enter_keeps c.args.pass.now (stay_of c.args.seat.now.part c.args.pass.now.part c.args.id))
