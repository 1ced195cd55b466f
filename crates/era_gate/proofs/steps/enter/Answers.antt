use Rattle.std.proofs.Common.{arith}
use Rattle.era_gate.proofs.Placed.{enter_at}
use Rattle.era_gate.proofs.steps.enter.Goals as goal

pub fetch_add-requires : goal.fetch_add-requires
fetch_add-requires g c =
    let words = c.requires.words in
    (c.requires.table, omega arith, enter_at c.args.board.now.shared.key c.args.board.now.shared.table_id.slots c.args.place.now.id c.args.place.now.me g.B.About.id c.requires.view c.requires.outside c.requires.lane)
