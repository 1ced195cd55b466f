use Rattle.std.proofs.Common.{◌++◌}
use Rattle.std.specs.Prelude.{codes}
use Rattle.era_text.specs.DumpLines.{run_line}
use Rattle.era_text.specs.Pieces.{lines_text_of}
use Rattle.era_text.proofs.Gives.{adds-then, cut-first, cut-then}
use Rattle.era_text.proofs.writer.give_current.Goals as goal

-- the sink failed at the word
pub returns-in_default-clause-added : goal.returns-in_default-clause-added
returns-in_default-clause-added g c =
    cut-first (g.K.Sink.given c.args.sink.now) (g.K.Sink.given c.add.new.sink) c.args.text.now
    (codes "current\n") (lines_text_of run_line c.args.runs.now ++ codes "end\n") c.in_default.ensures.added

-- at the runs
pub returns-in_default-give_runs-clause-added : goal.returns-in_default-give_runs-clause-added
returns-in_default-give_runs-clause-added g c =
    cut-then (g.K.Sink.given c.args.sink.now) (g.K.Sink.given c.add.new.sink) (g.K.Sink.given c.give_runs.new.sink) c.args.text.now c.add.new.self
    (codes "current\n") (lines_text_of run_line c.args.runs.now ++ codes "end\n") c.in-Ok.ensures.added
    (cut-first (g.K.Sink.given c.add.new.sink) (g.K.Sink.given c.give_runs.new.sink) c.add.new.self
    (lines_text_of run_line c.args.runs.now) (codes "end\n") c.in_default-give_runs.ensures.added)

-- the word, the runs and the end
pub returns-clause-added : goal.returns-clause-added
returns-clause-added g c =
    let given = g.K.Sink.given c.args.sink.now in
    let word = g.K.Sink.given c.add.new.sink in
    let runs = g.K.Sink.given c.give_runs.new.sink in
    let all = g.K.Sink.given c.add-2.new.sink in
    adds-then given word all c.args.text.now c.add.new.self c.add-2.new.self
    (codes "current\n") (lines_text_of run_line c.args.runs.now ++ codes "end\n") c.add-2.result c.in-Ok.ensures.added
    (adds-then word runs all c.add.new.self c.give_runs.new.text c.add-2.new.self
    (lines_text_of run_line c.args.runs.now) (codes "end\n") c.add-2.result c.in-Ok-give_runs.ensures.added c.add-2.ensures.added)
