use Rattle.era_text.specs.DumpLines.{run_line, set_line}
use Rattle.era_text.specs.Pieces.{ended, lines_text_of}
use Rattle.era_text.proofs.Gives.{adds-then, cut-first}
use Rattle.era_text.proofs.writer.give_set.Goals as goal

-- the sink failed at the first line
pub returns-in_default-clause-added : goal.returns-in_default-clause-added
returns-in_default-clause-added g c =
    cut-first (g.K.Sink.given c.args.sink.now) (g.K.Sink.given c.give_set_line.new.sink) c.args.text.now
    (ended (set_line c.args.set.now.era)) (lines_text_of run_line c.args.set.now.blocks) c.in_default.ensures.added

-- the runs stand behind it
pub returns-clause-added : goal.returns-clause-added
returns-clause-added g c =
    adds-then (g.K.Sink.given c.args.sink.now) (g.K.Sink.given c.give_set_line.new.sink) (g.K.Sink.given c.give_runs.new.sink)
    c.args.text.now c.give_set_line.new.text c.give_runs.new.text
    (ended (set_line c.args.set.now.era)) (lines_text_of run_line c.args.set.now.blocks) c.give_runs.result c.in-Ok.ensures.added
    (rw c.as_slice.ensures.value at c.give_runs.ensures.added)
