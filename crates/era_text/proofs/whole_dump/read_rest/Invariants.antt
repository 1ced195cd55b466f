use Rattle.std.proofs.Common.{◌≡◌, ℕ, ◌-◌, List}
use Rattle.era_line.specs.Reading.{IsAhead, LeavesRest}
use Rattle.era_text.specs.Taking.{head_of}
use Rattle.era_text.proofs.Places.{place_of}
use Rattle.era_text.proofs.RestSteps.{ComesTo, IsUnderway}
use Rattle.era_text.proofs.whole_dump.read_rest.Given as goal

abbrev pub invariant-loop-reading : goal.invariant-loop-reading
invariant-loop-reading g l = record {
  comes : (text : List ℕ) → IsAhead l.initial.lines (g.S.Source.left l.initial.source) text
      → ComesTo (head_of l.head) text l.count l.reading l.lines (g.S.Source.left l.source);
  underway : IsUnderway (head_of l.head) l.count l.reading;
  leaves : LeavesRest (g.S.Source.left l.initial.source) (g.S.Source.left l.source);
  kept : g.S.Source.faults l.source ≡ g.S.Source.faults l.initial.source;
}

abbrev pub decreases-loop-reading : goal.decreases-loop-reading
decreases-loop-reading g l = 1245223 - place_of l.reading
