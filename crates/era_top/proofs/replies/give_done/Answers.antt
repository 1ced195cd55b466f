use Rattle.era_top.proofs.ReplyParts.{done-marked}
use Rattle.era_top.proofs.replies.give_done.Goals as goal

-- a write that marked its block
pub returns-then-marks-clause-added : goal.returns-then-marks-clause-added
returns-then-marks-clause-added g c = λ before text is.
    rw (c.if-marks.true, done-marked c.args.line c.args.place) (c.give_parts.ensures.added before text is)
