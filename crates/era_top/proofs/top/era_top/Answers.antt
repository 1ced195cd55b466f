use Rattle.std.proofs.Common.{[], sym}
use Rattle.era_tools.specs.Around.{bay_around}
use Rattle.era_words.specs.Words.{texts_of}
use Rattle.era_top.specs.Around.{streams_around}
use Rattle.era_top.proofs.Exactly.{ends-exactly}
use Rattle.era_top.proofs.Faultless.{faultless-status}
use Rattle.era_top.proofs.top.era_top.Goals as goal

-- the report is that of the status
pub returns-clause-single_lane_session : goal.returns-clause-single_lane_session
returns-clause-single_lane_session g c = λ contents. record {
  status = c.run_words.result;
  reports = c.run_words.ensures.single_lane_session contents;
  told = sym c.number.ensures;
}

-- the stream is served, or memory is refused
pub returns-clause-faultless : goal.returns-clause-faultless
returns-clause-faultless g c =
    faultless-status g.row.B-D.Denot (texts_of c.args.words.now) g.B.D.Disk (bay_around g.B.Bay c.args.bay.now c.run_words.new.bay)
    (streams_around g.S.Source g.K.Sink c.args.source.now c.run_words.new.source c.args.sink.now c.run_words.new.sink)
    c.run_words.result c.number.result c.number.ensures c.run_words.ensures.single_lane_session
    c.run_words.ensures.fault c.run_words.ensures.source c.run_words.ensures.sink.rose

-- the number is the one that the words ask for
pub returns-clause-exact : goal.returns-clause-exact
returns-clause-exact g c =
    ends-exactly g.row.B-D.Denot (texts_of c.args.words.now) [] g.B.D.Disk (bay_around g.B.Bay c.args.bay.now c.run_words.new.bay)
    (streams_around g.S.Source g.K.Sink c.args.source.now c.run_words.new.source c.args.sink.now c.run_words.new.sink)
    c.run_words.result c.number.result c.number.ensures (c.run_words.ensures.single_lane_session [])
