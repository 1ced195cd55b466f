use Rattle.std.proofs.Common.{◌≡◌, take}
use Rattle.era_model.specs.Commands.{answer_of}
use Rattle.era_reply.specs.Replies.{told_by, trail_of}
use Rattle.era_reply.proofs.replies.last_answering.Given as goal

-- the answer by the events so far
abbrev pub invariant-loop-entry : goal.invariant-loop-entry
invariant-loop-entry l = told_by l.found ≡ answer_of (trail_of (take l.entry-index l.trail))
