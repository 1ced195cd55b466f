use Rattle.era_gate.proofs.Placed.{clear_at}
use Rattle.era_gate.proofs.steps.clear.Goals as goal

pub store-requires : goal.store-requires
store-requires g c =
    (c.requires.table, c.requires.words, clear_at c.args.board.now.shared.key c.args.board.now.shared.table_id.slots c.args.place.now.id c.args.place.now.me g.B.About.number c.args.word c.requires.view c.requires.so_far c.requires.index c.requires.bitmap)
