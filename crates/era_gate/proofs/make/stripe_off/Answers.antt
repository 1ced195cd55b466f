use Rattle.std.proofs.Common.{ap}
use Rattle.era_gate.specs.Parts.{new_stripe}
use Rattle.era_gate.specs.Plays.{Sat}
use Rattle.era_gate.proofs.Making.{stripe_off_at}
use Rattle.era_gate.proofs.make.stripe_off.Goals as goal

pub split_seat-seat-requires : goal.split_seat-seat-requires
split_seat-seat-requires c =
    (c.requires.table, c.requires.words, stripe_off_at c.args.board.now.shared.key c.args.place.now.id c.args.place.now.me.0 (new_stripe c.args._stripe) (ap (λ (z : Sat). z.0.stripes) c.requires.view))
