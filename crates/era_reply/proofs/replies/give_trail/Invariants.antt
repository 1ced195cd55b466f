use Rattle.std.proofs.Common.{◌≡◌, take}
use Rattle.era_line.proofs.PartSteps.{HasAdded}
use Rattle.era_model.specs.Transcript.{trail_text}
use Rattle.era_reply.specs.Replies.{trail_of}
use Rattle.era_reply.proofs.replies.give_trail.Given as goal

-- the events so far were added, and the sink hasn't failed
abbrev pub invariant-loop-entry : goal.invariant-loop-entry
invariant-loop-entry g l = record {
  added : HasAdded (g.K.Sink.given l.initial.sink) l.initial.text (g.K.Sink.given l.sink) l.text (trail_text (trail_of (take l.entry-index l.trail)));
  kept : g.K.Sink.faults l.sink ≡ g.K.Sink.faults l.initial.sink;
}
