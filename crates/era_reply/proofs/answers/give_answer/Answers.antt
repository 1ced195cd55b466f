use Rattle.std.proofs.Common.{subst}
use Rattle.era_line.specs.TextBuffer.{Adds}
use Rattle.era_reply.proofs.ReplyParts.{found-parts}
use Rattle.era_reply.proofs.answers.give_answer.Goals as goal

pub returns-in-Cut-clause-added : goal.returns-in-Cut-clause-added
returns-in-Cut-clause-added g c = rw c.in-Cut.is c.give_numbered.ensures.added

pub returns-in-Read-clause-added : goal.returns-in-Read-clause-added
returns-in-Read-clause-added g c =
    rw c.in-Read.is (subst (λ bytes. Adds (g.K.Sink.given c.args.sink.now) c.args.text.now (g.K.Sink.given c.give_parts.new.sink) c.give_parts.new.text bytes c.give_parts.result)
    (found-parts _) (rw c.as_slice.ensures at c.give_parts.ensures.added))
