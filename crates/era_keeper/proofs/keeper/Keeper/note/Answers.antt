use Rattle.std.proofs.Common.{◌+◌, ◌≡◌, List, length, refl, ap, arith, subst}
use Rattle.era_gate.specs.Calls.{KeeperToken, PassToken}
use Rattle.era_gate.specs.Places.{AscendFrom}
use Rattle.era_gate.specs.StateAfter.{entry}
use Rattle.era_model.specs.declared.entry.Entry.{Entry}
use Rattle.era_keeper.proofs.Drawn.{ascend-length, keeps-none}
use Rattle.era_keeper.proofs.keeper.Keeper.note.Goals as goal

pub returns-clause-drew : goal.returns-clause-drew
returns-clause-drew g c =
    let floor : c.draw_keeper-place.new.pass.part.floor ≡ c.draw_keeper-place.result + 1 = ap (λ (t : PassToken). t.part.floor) c.draw_keeper-place.ensures.pass in
    record {
      seat = c.draw_keeper-place.ensures.seat;
      lanes = ap (λ (t : PassToken). t.part.lanes) c.draw_keeper-place.ensures.pass;
      floor = c.draw_keeper-place.ensures.place.floor;
      next = omega (arith, floor);
      kept = c.push.ensures.entries;
      last = c.push.ensures.last;
      room = c.push.ensures.room;
      keeps = keeps-none c.args.event c.args.self.now.seat.part c.args.pass.now c.draw_keeper-place.new.pass c.requires.may.may c.draw_keeper-place.ensures.keeps;
      marks = c.draw_keeper-place.ensures.marks;
      ascend = c.draw_keeper-place.ensures.place.ascend;
      few =
          let is = ap (λ (t : KeeperToken). t.part.state.entries) c.draw_keeper-place.ensures.seat in
          let last : Entry = entry c.draw_keeper-place.result c.args.event in
          let many = ascend-length 0 c.args.self.now.seat.part.state.entries last (subst (AscendFrom 0) is c.draw_keeper-place.ensures.place.ascend) in
          let limit = c.draw_keeper-place.ensures.place.limit in
          let size = ap (λ (es : List Entry). length es) is in
          omega (arith, many, limit, size);
    }

pub returns-clause-same : goal.returns-clause-same
returns-clause-same g c = record { meta = refl; table = ap (λ (s : KeeperToken). s.table) c.draw_keeper-place.ensures.seat; began = c.add.ensures.first }
