use Rattle.era_text.specs.Dumps.{AreSetRuns}
use Rattle.era_text.proofs.GivenDumps.{dump-of_runs, gives-all, gives-flushed, gives-front}
use Rattle.era_text.proofs.writer.write_marks.Goals as goal

-- the sink failed while the lines were gathered
pub returns-in_default-clause-given : goal.returns-in_default-clause-given
returns-in_default-clause-given g c =
    let m = c.marks.inside in
    let sets : AreSetRuns m.archive = rw c.as_slice.ensures at c.see_runs.ensures in
    let dump = dump-of_runs c.args.marks.now m.geometry m.era m.array m.archive m.current c.marks.view_is
    c.as_slice-2.ensures.runs sets c.as_slice-4.ensures.runs c.marks.invariant in
    gives-front c.args.marks.now (g.K.Sink.given c.args.sink.now) (g.K.Sink.given c.give_lists.new.sink) c.new-text.result _ c.faults.result dump c.new-text.ensures
    (rw (c.as_slice-2.ensures.value, c.as_slice-3.ensures, c.as_slice-4.ensures.value) at c.in_default.ensures.added)

-- at the last piece
pub returns-in_default-flush-clause-given : goal.returns-in_default-flush-clause-given
returns-in_default-flush-clause-given g c =
    let m = c.marks.inside in
    let sets : AreSetRuns m.archive = rw c.as_slice.ensures at c.see_runs.ensures in
    let dump = dump-of_runs c.args.marks.now m.geometry m.era m.array m.archive m.current c.marks.view_is
    c.as_slice-2.ensures.runs sets c.as_slice-4.ensures.runs c.marks.invariant in
    gives-flushed c.args.marks.now (g.K.Sink.given c.args.sink.now) (g.K.Sink.given c.give_lists.new.sink) (g.K.Sink.given c.flush.new.sink)
    c.new-text.result c.give_lists.new.text _ c.faults-in_default-flush.result dump c.new-text.ensures
    (rw (c.as_slice-2.ensures.value, c.as_slice-3.ensures, c.as_slice-4.ensures.value) at c.in-Ok.ensures.added) c.in_default-flush.ensures.flushed

-- the whole text
pub returns-clause-given : goal.returns-clause-given
returns-clause-given g c =
    let m = c.marks.inside in
    let sets : AreSetRuns m.archive = rw c.as_slice.ensures at c.see_runs.ensures in
    let dump = dump-of_runs c.args.marks.now m.geometry m.era m.array m.archive m.current c.marks.view_is
    c.as_slice-2.ensures.runs sets c.as_slice-4.ensures.runs c.marks.invariant in
    gives-all c.args.marks.now (g.K.Sink.given c.args.sink.now) (g.K.Sink.given c.give_lists.new.sink) (g.K.Sink.given c.flush.new.sink)
    c.new-text.result c.give_lists.new.text _ dump c.new-text.ensures
    (rw (c.as_slice-2.ensures.value, c.as_slice-3.ensures, c.as_slice-4.ensures.value) at c.in-Ok.ensures.added) c.in-Ok-flush.ensures.flushed
