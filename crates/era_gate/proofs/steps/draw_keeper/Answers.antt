use Rattle.std.proofs.Common.{arith}
use Rattle.era_gate.proofs.Placed.{keeper_draw_at}
use Rattle.era_gate.proofs.steps.draw_keeper.Goals as goal

pub fetch_add-requires : goal.fetch_add-requires
fetch_add-requires g c =
    let words = c.requires.words in
    (c.requires.table, omega arith, keeper_draw_at c.args.board.now.shared.key c.args.board.now.shared.table_id.slots c.args.place.now.id c.args.place.now.me g.B.About.event c.requires.view c.requires.may c.requires.pass)
