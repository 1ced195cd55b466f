use Rattle.std.proofs.Common.{◌≡◌, ◌++◌, subst, inl}
use Rattle.std.specs.Prelude.{Some}
use Rattle.era_model.specs.Transcript.{open_line}
use Rattle.era_run.proofs.session.serve_stream.Goals as goal

-- the rounds were served behind the first line
pub returns : goal.returns
returns g c = record {
  served = inl (record {
    opened = record { given = g.K.Sink.given c.give_open.new.sink; faults = g.K.Sink.faults c.give_open.new.sink };
    given = λ before is. subst (λ era. g.K.Sink.given c.give_open.new.sink ≡ Some (before ++ open_line c.args.session.now.geometry era)) c.era-era.ensures (c.in-Ok.ensures.given before is);
    kept = c.in-Ok.ensures.cause.kept;
    rounds = c.serve_rounds.ensures;
  });
}
