use Rattle.std.proofs.Common.{refl}
use Rattle.era_gate.proofs.Placed.{set_at}
use Rattle.era_gate.proofs.steps.set.Goals as goal

pub fetch_or-requires : goal.fetch_or-requires
fetch_or-requires c =
    (c.requires.table, c.requires.words, set_at c.args.board.now.shared.key c.args.board.now.shared.table_id.slots c.args.place.now.id c.args.place.now.me c.args.block c.args.word _ c.requires.view c.requires.marked c.requires.block c.requires.bitmap refl)
