use Rattle.era_gate.proofs.Placed.{look_at}
use Rattle.era_gate.proofs.steps.look.Goals as goal

pub load-requires : goal.load-requires
load-requires g c =
    (c.requires.table, c.requires.words, look_at c.args.board.now.shared.key c.args.board.now.shared.table_id.slots c.args.place.now.id c.args.place.now.me g.B.About.number c.args.word c.requires.view c.requires.inside c.requires.block c.requires.bitmap)
