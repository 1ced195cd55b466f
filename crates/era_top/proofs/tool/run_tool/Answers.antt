use Rattle.era_tools.specs.Around.{bay_around}
use Rattle.era_top.specs.Around.{streams_around}
use Rattle.era_top.proofs.ToolEnds.{tool-fault, tool-returned, tool-source}
use Rattle.era_top.proofs.tool.run_tool.Goals as goal

-- a fault is of the bay, or of the disk that was lent
pub returns-clause-fault : goal.returns-clause-fault
returns-clause-fault g c =
    tool-fault g.row.B-D.Denot g.B.D.Disk (bay_around g.B.Bay c.args.bay.now c.do_job.new.bay)
    (streams_around g.S.Source g.K.Sink c.args.source.now c.do_job.new.source c.args.sink.now c.do_job.new.sink)
    c.do_job.result c.args.job.now c.do_job.ensures.ran

-- the source is the cause where it is read
pub returns-clause-source : goal.returns-clause-source
returns-clause-source g c =
    tool-source g.row.B-D.Denot g.B.D.Disk (bay_around g.B.Bay c.args.bay.now c.do_job.new.bay)
    (streams_around g.S.Source g.K.Sink c.args.source.now c.do_job.new.source c.args.sink.now c.do_job.new.sink)
    c.do_job.result c.args.job.now c.do_job.ensures.ran

-- each disk was put back
pub returns-clause-returned : goal.returns-clause-returned
returns-clause-returned g c =
    tool-returned g.row.B-D.Denot g.B.D.Disk (bay_around g.B.Bay c.args.bay.now c.do_job.new.bay)
    (streams_around g.S.Source g.K.Sink c.args.source.now c.do_job.new.source c.args.sink.now c.do_job.new.sink)
    c.do_job.result c.args.job.now c.do_job.ensures.ran
