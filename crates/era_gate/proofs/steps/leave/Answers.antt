use Rattle.std.proofs.Common.{arith}
use Rattle.era_gate.proofs.Placed.{leave_at}
use Rattle.era_gate.proofs.steps.leave.Goals as goal

pub fetch_sub-requires : goal.fetch_sub-requires
fetch_sub-requires c =
    let words = c.requires.words in
    (c.requires.table, omega arith, leave_at c.args.board.now.shared.key c.args.board.now.shared.table_id.slots c.args.place.now.id c.args.place.now.me c.requires.view c.requires.inside c.requires.idle)
