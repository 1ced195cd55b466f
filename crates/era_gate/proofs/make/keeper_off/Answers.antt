use Rattle.std.proofs.Common.{ap}
use Rattle.era_gate.specs.Parts.{new_keeper}
use Rattle.era_gate.specs.Plays.{Sat}
use Rattle.era_gate.proofs.Making.{keeper_off_at}
use Rattle.era_gate.proofs.make.keeper_off.Goals as goal

pub split_seat-seat-requires : goal.split_seat-seat-requires
split_seat-seat-requires c =
    (c.requires.table, c.requires.words, keeper_off_at c.args.board.now.shared.key c.args.place.now.id c.args.place.now.me.0 (new_keeper c.args.era) (ap (λ (z : Sat). z.0.keepers) c.requires.view))
