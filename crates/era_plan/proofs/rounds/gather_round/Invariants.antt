use Rattle.std.proofs.Common.{◌≡◌, ◌-◌, false}
use Rattle.era_line.specs.Reading.{LeavesRest}
use Rattle.era_plan.specs.Reading.{StandsAt, has_ended}
use Rattle.era_plan.specs.Stream.{Standing}
use Rattle.era_plan.specs.Taking.{IsReading}
use Rattle.era_plan.proofs.rounds.gather_round.Given as goal

-- the lines that have ended go on with the round
abbrev pub invariant-loop-round : goal.invariant-loop-round
invariant-loop-round g l = record {
  reading : (at : Standing) → StandsAt l.initial.lines at
      → IsReading at l.initial.lines.reader (g.S.Source.left l.initial.source) l.lines.reader (g.S.Source.left l.source) l.lines.counts l.round;
  leaves : LeavesRest (g.S.Source.left l.initial.source) (g.S.Source.left l.source);
  kept : g.S.Source.faults l.source ≡ g.S.Source.faults l.initial.source;
  going : has_ended l.lines ≡ false;
}

abbrev pub decreases-loop-round : goal.decreases-loop-round
decreases-loop-round g l = 131072 - l.lines.counts.lines
