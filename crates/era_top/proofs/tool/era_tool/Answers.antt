use Rattle.std.proofs.Common.{[], ◌∙◌, sym}
use Rattle.era_tools.specs.Around.{bay_around}
use Rattle.era_words.specs.Words.{texts_of}
use Rattle.era_top.specs.Around.{streams_around}
use Rattle.era_top.proofs.Exactly.{tool-exactly}
use Rattle.era_top.proofs.Faultless.{quiet-status}
use Rattle.era_top.proofs.Numbers.{ends-by_sink, number-fault}
use Rattle.era_top.proofs.tool.era_tool.Goals as goal

-- the number is the one that the words ask for
pub returns-clause-exact : goal.returns-clause-exact
returns-clause-exact g c =
    tool-exactly g.row.B-D.Denot (texts_of c.args.words.now) [] g.B.D.Disk (bay_around g.B.Bay c.args.bay.now c.run_tool_words.new.bay)
    (streams_around g.S.Source g.K.Sink c.args.source.now c.run_tool_words.new.source c.args.sink.now c.run_tool_words.new.sink)
    c.run_tool_words.result c.number.result c.number.ensures c.run_tool_words.ensures.report

-- where no count rises the tool ends quietly
pub returns-clause-faultless : goal.returns-clause-faultless
returns-clause-faultless g c =
    quiet-status g.row.B-D.Denot (texts_of c.args.words.now) g.B.D.Disk (bay_around g.B.Bay c.args.bay.now c.run_tool_words.new.bay)
    (streams_around g.S.Source g.K.Sink c.args.source.now c.run_tool_words.new.source c.args.sink.now c.run_tool_words.new.sink)
    c.run_tool_words.result c.number.result c.number.ensures c.run_tool_words.ensures.report c.run_tool_words.ensures.fault c.run_tool_words.ensures.source c.run_tool_words.ensures.sink.rose

-- the number of a fault comes with a count that rose
pub returns-clause-fault : goal.returns-clause-fault
returns-clause-fault g c = λ is. c.run_tool_words.ensures.fault (number-fault c.run_tool_words.result (sym c.number.ensures ∙ is))

-- and that of a failed sink with the sink's
pub returns-clause-sink : goal.returns-clause-sink
returns-clause-sink g c =
    ends-by_sink (g.K.Sink.faults c.args.sink.now) (g.K.Sink.faults c.run_tool_words.new.sink) c.run_tool_words.result c.number.result c.number.ensures
    c.run_tool_words.ensures.sink
