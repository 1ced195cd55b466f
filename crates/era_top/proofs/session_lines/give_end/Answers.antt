use Rattle.era_top.proofs.Gives.{prints-fresh}
use Rattle.era_top.proofs.SessionTexts.{end-parts}
use Rattle.era_top.proofs.session_lines.give_end.Goals as goal

-- the parts are the line
pub returns-clause-printed : goal.returns-clause-printed
returns-clause-printed g c =
    rw (end-parts c.args.era c.args.events)
    (rw c.from.ensures at (prints-fresh (g.K.Sink.given c.args.sink.now) (g.K.Sink.given c.give_last.new.sink) c.new.result _ _ _ c.new.ensures c.give_last.ensures.printed))
