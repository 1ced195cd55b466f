use Rattle.era_top.proofs.ReplyParts.{cut-marked, cut-unmarked}
use Rattle.era_top.proofs.replies.give_cut.Goals as goal

-- a write that marked its block
pub returns-then-marks-clause-added : goal.returns-then-marks-clause-added
returns-then-marks-clause-added g c = λ before text is.
    rw (c.if-marks.true, cut-marked c.args.line c.args.place c.args.faults) (c.give_parts.ensures.added before text is)

-- a write to a block that was marked
pub returns-else-marks-clause-added : goal.returns-else-marks-clause-added
returns-else-marks-clause-added g c = λ before text is.
    rw (c.if-marks.false, cut-unmarked c.args.line c.args.place c.args.faults) (c.give_parts-else-marks.ensures.added before text is)
