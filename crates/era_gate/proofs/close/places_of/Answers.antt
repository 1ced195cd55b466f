use Rattle.std.proofs.Common.{ap, ◌∙◌}
use mathlib.Core.Option.{some}
use Rattle.era_gate.specs.Plays.{Sat}
use Rattle.era_gate.proofs.Closing.{last_tells}
use Rattle.era_gate.proofs.close.places_of.Goals as goal

pub returns : goal.returns
returns c =
    let last = c.close_with-closed.ensures.values.2 in
    let at = last.1.1 ∙ ap (λ (z : Sat). some z.0) c.requires.view in
    record { tells = last_tells c.args.board.shared.key c.args.place.id c.args.place.me.0.stripes c.args.place.me.0 last.0 _ c.word-places.result last.1.0 at last.2 c.word-places.ensures c.requires.stripes c.requires.lanes }
