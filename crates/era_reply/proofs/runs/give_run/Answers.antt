use Rattle.era_reply.proofs.ReplyParts.{run-one, run-several}
use Rattle.era_reply.proofs.runs.give_run.Goals as goal

-- a run of one block
pub returns-then-first-last-clause-added : goal.returns-then-first-last-clause-added
returns-then-first-last-clause-added g c = λ before text is.
    rw (run-one c.args.first c.args.last c.if-first-last.true) (rw c.from.ensures at (c.give_parts.ensures.added before text is))

-- a run of several
pub returns-else-first-last-clause-added : goal.returns-else-first-last-clause-added
returns-else-first-last-clause-added g c = λ before text is.
    rw (run-several c.args.first c.args.last c.if-first-last.false)
    (rw (c.from-else-first-last.ensures, c.from-else-first-last-2.ensures) at (c.give_parts-else-first-last.ensures.added before text is))
