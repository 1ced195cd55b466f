use Rattle.std.proofs.Common.{◌∷◌, ap₂, sym, subst}
use Rattle.era_model.specs.Transcript.{end_line, stop_line}
use Rattle.std.proofs.Common.{◌++◌}
use Rattle.era_base.specs.Calls.{Now}
use Rattle.era_keeper.specs.Keepers.{view_of as keeper_view}
use Rattle.era_keeper.specs.Recovery.{LeavesDurable}
use Rattle.era_notes.specs.Notes.{own_history}
use Rattle.era_opening.specs.Loans.{ArePutBack, MayGoBack}
use Rattle.era_run.specs.Endings.{PrintsEnding, told_stop}
use Rattle.era_run.proofs.Streamed.{all-served, fits-after}
use Rattle.era_tools.specs.Around.{bay_around}
use Rattle.era_run.proofs.session.run_opened.Goals as goal

-- the session fits together as it is closed
pub close-ended-requires : goal.close-ended-requires
close-ended-requires g c = record { fits = fits-after g.B.D.Disk c.args.session c.serve_stream-stopped.new.session _ c.serve_stream-stopped.result c.serve_stream-stopped.ensures.served c.requires.fits }

-- its devices may go back
pub put_back_session-requires-clause-may : goal.put_back_session-requires-clause-may
put_back_session-requires-clause-may g c κs within =
    let last = c.serve_stream-stopped.new.session in
    let all = all-served g.B.D.Disk c.args.session last _ c.serve_stream-stopped.result c.serve_stream-stopped.ensures.served in
    subst (λ disks. MayGoBack g.B.D.Disk disks (g.B.Bay.loans c.args.bay.now)) (ap₂ (λ disk disks. disk ∷ disks) (sym c.close-ended.ensures.meta) (sym c.close-ended.ensures.parts))
    (c.requires.may last (c.sessions_keep_their_devices.ensures.same all.0 c.args.session last all.1))

-- it has run
pub returns-clause-ran : goal.returns-clause-ran
returns-clause-ran g c =
    let last = c.serve_stream-stopped.new.session in
    let sink = c.serve_stream-stopped.new.sink in record {
      last = last;
      stopped = c.serve_stream-stopped.result;
      sink = record { given = g.K.Sink.given sink; faults = g.K.Sink.faults sink };
      places = c.close-ended.result.places;
      served = c.serve_stream-stopped.ensures.served;
      closed = record {
        acts = c.close-ended.ensures.acts.0;
        drew = c.close-ended.ensures.acts.1;
        durable = λ opening stands. subst (Now g.B.D.Disk (LeavesDurable (own_history opening (keeper_view g.B.D.Disk last.keeper).notes))) c.close-ended.ensures.meta (c.close-ended.ensures.durable opening stands);
      };
      back = subst (ArePutBack g.B.D.Disk (bay_around g.B.Bay c.args.bay.now c.put_back_session.new.bay)) (ap₂ (λ disk disks. disk ∷ disks) c.close-ended.ensures.meta c.close-ended.ensures.parts) c.put_back_session.ensures.back;
      ended = subst (λ era. PrintsEnding (g.K.Sink.given sink) (g.K.Sink.given c.give_ending.new.sink) (g.K.Sink.faults sink) (g.K.Sink.faults c.give_ending.new.sink) c.serve_stream-stopped.result
          (stop_line (told_stop c.serve_stream-stopped.result.stop) ++ end_line era c.close-ended.result.places) c.give_ending.result) c.era-era.ensures c.give_ending.ensures.printed;
    }
