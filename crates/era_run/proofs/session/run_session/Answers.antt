use Rattle.std.proofs.Common.{inl}
use Rattle.era_run.specs.Around.{streams_around}
use Rattle.era_tools.specs.Around.{bay_around}
use Rattle.era_run.proofs.session.run_session.Goals as goal

-- its devices may go back, whatever is served
pub run_opened-requires-clause-may : goal.run_opened-requires-clause-may
run_opened-requires-clause-may g c κs within = λ last same.
    c.devices_of_a_session_may_go_back.ensures (bay_around g.B.Bay c.args.bay.now c.open_session.new.bay) c.args.line.now c.args.stripes c.in-Ok.session last c.in-Ok.ensures.opened same

-- the session's report
pub returns-in-Ok-clause-ran : goal.returns-in-Ok-clause-ran
returns-in-Ok-clause-ran g c = inl (c.runs_are_accounted_for.ensures (bay_around g.B.Bay c.args.bay.now c.run_opened.new.bay)
    (record { sizes = g.B.Bay.sizes c.open_session.new.bay; reads = g.B.Bay.reads c.open_session.new.bay; loans = g.B.Bay.loans c.open_session.new.bay; faults = g.B.Bay.faults c.open_session.new.bay })
    c.args.line.now c.args.stripes
    (streams_around g.S.Source g.K.Sink c.args.source.now c.run_opened.new.source c.args.sink.now c.run_opened.new.sink)
    c.in-Ok.session c.run_opened.result c.in-Ok.ensures.opened c.run_opened.ensures.ran)

-- sizes that were told are told again
pub returns-in-Ok-clause-sizes : goal.returns-in-Ok-clause-sizes
returns-in-Ok-clause-sizes g c = λ device size is. c.run_opened.ensures.sizes device size (c.open_session.ensures.sizes device size is)
