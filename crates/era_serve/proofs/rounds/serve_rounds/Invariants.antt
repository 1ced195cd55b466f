use Rattle.std.proofs.Common.{◌≡◌, ◌-◌, false}
use Rattle.era_plan.specs.Reading.{has_failed, lines_read}
use Rattle.era_serve.specs.Stops.{around}
use Rattle.era_serve.proofs.SoFar.{SoFar}
use Rattle.era_serve.proofs.rounds.serve_rounds.Given as goal

-- the rounds so far were run and answered, and the reader hasn't failed
abbrev pub invariant-loop-round : goal.invariant-loop-round
invariant-loop-round g l = record {
  so_far : SoFar g.D.Disk l.initial.session l.session (around g.S.Source g.K.Sink l.initial.source l.source l.initial.sink l.sink) l.replies l.lines l.lane;
  reads : has_failed l.lines ≡ false;
}

-- each round has a line of its own
abbrev pub decreases-loop-round : goal.decreases-loop-round
decreases-loop-round g l = 131073 - lines_read l.lines
