use Rattle.std.proofs.Common.{[], subst, sym}
use Rattle.era_model.specs.Transcript.{end_line, stop_line}
use Rattle.era_top.specs.Gathered.{PrintsBehind}
use Rattle.era_top.specs.Sessions.{status_of, stop_of}
use Rattle.era_top.proofs.Gives.{prints-added}
use Rattle.era_top.proofs.SessionSteps.{prints-first}
use Rattle.era_top.proofs.SessionTexts.{end-parts}
use Rattle.era_top.proofs.session_lines.give_stop.Goals as goal

-- the sink failed at the reason
pub returns-in_default-clause-printed : goal.returns-in_default-clause-printed
returns-in_default-clause-printed g c =
    prints-first (g.K.Sink.given c.args.sink.now) (g.K.Sink.given c.give_reason.new.sink) (stop_line (stop_of c.args.error)) (end_line c.args.era c.args.events) (status_of c.args.error)
    (λ before is. c.in_default.ensures.added before [] (c.new-text.ensures before (g.K.Sink.given c.args.sink.now) is))

-- the last line stands behind it
pub returns-clause-printed : goal.returns-clause-printed
returns-clause-printed g c =
    let given' = g.K.Sink.given c.give_reason.new.sink in
    let given'' = g.K.Sink.given c.give_last.new.sink in
    let text' = c.give_reason.new.text in
    let last = rw (c.status_of_error.ensures, c.from.ensures) at c.give_last.ensures.printed in
    prints-added (g.K.Sink.given c.args.sink.now) given' given'' c.new-text.result text' (stop_line (stop_of c.args.error))
    (end_line c.args.era c.args.events) (status_of c.args.error) c.give_last.result c.new-text.ensures c.in-Ok.ensures.added
    (subst (λ bytes. PrintsBehind given' text' given'' bytes (status_of c.args.error) c.give_last.result) (sym (end-parts c.args.era c.args.events)) last)
