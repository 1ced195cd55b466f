use Rattle.std.proofs.Common.{rules, sym, subst}
use Rattle.era_model.specs.Events.{is_go_of}
use Rattle.era_gate.specs.Calls.{KeeperToken}
use Rattle.era_gate.specs.Passes.{KeepsPass, HasMarks}
use Rattle.era_gate.proofs.PassKept.{draw_keeps, marks_drawn}
use Rattle.era_gate.proofs.gate.Gate.draw_keeper.Goals as goal

pub returns-clause-seat : goal.returns-clause-seat
returns-clause-seat c = search rules

pub returns-clause-pass : goal.returns-clause-pass
returns-clause-pass c = search rules

pub returns-clause-place : goal.returns-clause-place
returns-clause-place c = search rules

pub returns-clause-keeps : goal.returns-clause-keeps
returns-clause-keeps c =
    subst (KeepsPass 1 (λ id. is_go_of id c.args.event.now) c.args.pass.now) (sym (returns-clause-pass c)) (draw_keeps c.args.pass.now c.args.event.now c.draw_keeper-place.result (returns-clause-place c).floor c.requires.pass.1)

pub returns-clause-marks : goal.returns-clause-marks
returns-clause-marks c =
    subst (λ (t : KeeperToken). HasMarks c.args.event.now c.args.seat.now.part.state.entries t.part.state.entries) (sym (returns-clause-seat c)) (marks_drawn c.args.event.now c.args.seat.now.part.state.entries c.draw_keeper-place.result)
