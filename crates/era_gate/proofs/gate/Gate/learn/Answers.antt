use Rattle.std.proofs.Common.{rules, sym, subst}
use Rattle.era_gate.specs.Calls.{StripeToken, PassToken}
use Rattle.era_gate.specs.Passes.{KeepsPass, KnowsBegun, KnowsEnded, no_write}
use Rattle.era_gate.proofs.PassKept.{learn_keeps, learned_begun, learned_ended, of_both}
use Rattle.era_gate.proofs.gate.Gate.learn.Goals as goal

pub returns-clause-seat : goal.returns-clause-seat
returns-clause-seat c = search rules

pub returns-clause-pass : goal.returns-clause-pass
returns-clause-pass c = search rules

pub returns-clause-keeps : goal.returns-clause-keeps
returns-clause-keeps c =
    subst (KeepsPass 0 no_write c.args.pass.now) (sym (returns-clause-pass c)) (learn_keeps c.args.pass.now c.args.seat.now.part)

pub returns-clause-begun : goal.returns-clause-begun
returns-clause-begun c =
    of_both (λ (s : StripeToken) (q : PassToken). KnowsBegun s.part q.part) _ _ _ _ (returns-clause-seat c) (returns-clause-pass c) (learned_begun c.args.seat.now.part c.args.pass.now.part)

pub returns-clause-ended : goal.returns-clause-ended
returns-clause-ended c =
    of_both (λ (s : StripeToken) (q : PassToken). KnowsEnded s.part q.part) _ _ _ _ (returns-clause-seat c) (returns-clause-pass c) (learned_ended c.args.seat.now.part c.args.pass.now.part)
