use Rattle.std.proofs.Common.{refl, inl, []}
use Rattle.era_tools.specs.Around.{bay_around}
use Rattle.era_tools.specs.Refusals.{refusal_status, refusal_text}
use Rattle.era_top.specs.Around.{streams_around}
use Rattle.era_top.specs.Reports.{Refuses}
use Rattle.era_top.proofs.Causes.{printed-fault}
use Rattle.era_top.proofs.Serving.{served-reports, served-fault, served-source, served-returned}
use Rattle.era_top.proofs.ToolEnds.{none-returned, refused-no_source}
use Rattle.era_top.proofs.top.run_serve.Goals as goal

-- the session's report
pub returns-in-Ok-clause-single_lane_session : goal.returns-in-Ok-clause-single_lane_session
returns-in-Ok-clause-single_lane_session g c = λ contents.
    served-reports g.row.B-D.Denot c.args.line.now g.B.D.Disk (bay_around g.B.Bay c.args.bay.now c.serve_lent.new.bay)
    (record { sizes = g.B.Bay.sizes c.open.new.bay; reads = g.B.Bay.reads c.open.new.bay; loans = g.B.Bay.loans c.open.new.bay; faults = g.B.Bay.faults c.open.new.bay })
    (streams_around g.S.Source g.K.Sink c.args.source.now c.serve_lent.new.source c.args.sink.now c.serve_lent.new.sink)
    c.in-Ok.geometry c.in-Ok.disk c.serve_lent.result
    contents c.in-Ok.ensures c.serve_lent.ensures.sizes (c.serve_lent.ensures.served contents (g.B.Bay.loans c.args.bay.now) c.in-Ok.ensures.taken.loans)

-- a fault is one of the disk that was lent
pub returns-in-Ok-clause-fault : goal.returns-in-Ok-clause-fault
returns-in-Ok-clause-fault g c =
    served-fault g.row.B-D.Denot c.args.line.now g.B.D.Disk (bay_around g.B.Bay c.args.bay.now c.serve_lent.new.bay)
    (record { sizes = g.B.Bay.sizes c.open.new.bay; reads = g.B.Bay.reads c.open.new.bay; loans = g.B.Bay.loans c.open.new.bay; faults = g.B.Bay.faults c.open.new.bay })
    (streams_around g.S.Source g.K.Sink c.args.source.now c.serve_lent.new.source c.args.sink.now c.serve_lent.new.sink)
    c.in-Ok.geometry c.in-Ok.disk c.serve_lent.result
    [] (c.serve_lent.ensures.served [] (g.B.Bay.loans c.args.bay.now) c.in-Ok.ensures.taken.loans)

-- the source failed
pub returns-in-Ok-clause-source : goal.returns-in-Ok-clause-source
returns-in-Ok-clause-source g c =
    served-source g.row.B-D.Denot c.args.line.now g.B.D.Disk (bay_around g.B.Bay c.args.bay.now c.serve_lent.new.bay)
    (record { sizes = g.B.Bay.sizes c.open.new.bay; reads = g.B.Bay.reads c.open.new.bay; loans = g.B.Bay.loans c.open.new.bay; faults = g.B.Bay.faults c.open.new.bay })
    (streams_around g.S.Source g.K.Sink c.args.source.now c.serve_lent.new.source c.args.sink.now c.serve_lent.new.sink)
    c.in-Ok.geometry c.in-Ok.disk c.serve_lent.result
    [] (c.serve_lent.ensures.served [] (g.B.Bay.loans c.args.bay.now) c.in-Ok.ensures.taken.loans)

-- the one disk that was lent was put back
pub returns-in-Ok-clause-returned : goal.returns-in-Ok-clause-returned
returns-in-Ok-clause-returned g c =
    served-returned g.row.B-D.Denot c.args.line.now g.B.D.Disk (bay_around g.B.Bay c.args.bay.now c.serve_lent.new.bay)
    (record { sizes = g.B.Bay.sizes c.open.new.bay; reads = g.B.Bay.reads c.open.new.bay; loans = g.B.Bay.loans c.open.new.bay; faults = g.B.Bay.faults c.open.new.bay })
    (streams_around g.S.Source g.K.Sink c.args.source.now c.serve_lent.new.source c.args.sink.now c.serve_lent.new.sink)
    c.in-Ok.geometry c.in-Ok.disk c.serve_lent.result
    [] (c.serve_lent.ensures.served [] (g.B.Bay.loans c.args.bay.now) c.in-Ok.ensures.taken.loans)

-- the refusal's report
pub returns-in-Err-clause-single_lane_session : goal.returns-in-Err-clause-single_lane_session
returns-in-Err-clause-single_lane_session g c = λ contents. record {
  report = Refuses c.in-Err.refusal;
  ended = refusal_status c.in-Err.refusal;
  right = (refl, c.in-Err.ensures.cause, c.in-Err.ensures.left, record { left = refl; faults = refl });
  printed = c.refuse.ensures.printed;
}

-- no disk was lent
pub returns-in-Err-clause-returned : goal.returns-in-Err-clause-returned
returns-in-Err-clause-returned g c =
    none-returned g.row.B-D.Denot (bay_around g.B.Bay c.args.bay.now c.open.new.bay) c.in-Err.ensures.left.loans

-- a fault is the bay's
pub returns-in-Err-clause-fault : goal.returns-in-Err-clause-fault
returns-in-Err-clause-fault g c = λ is. inl (c.in-Err.ensures.rose
    (printed-fault (g.K.Sink.given c.args.sink.now) (g.K.Sink.given c.refuse.new.sink) (refusal_text c.in-Err.refusal) (refusal_status c.in-Err.refusal) c.refuse.result
    c.refuse.ensures.printed is))

-- the source is not the cause
pub returns-in-Err-clause-source : goal.returns-in-Err-clause-source
returns-in-Err-clause-source g c =
    refused-no_source (streams_around g.S.Source g.K.Sink c.args.source.now c.args.source.now c.args.sink.now c.refuse.new.sink) c.refuse.result c.in-Err.refusal c.refuse.ensures.printed
