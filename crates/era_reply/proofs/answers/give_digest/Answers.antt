use Rattle.std.proofs.Common.{subst}
use Rattle.era_line.specs.TextBuffer.{Adds}
use Rattle.era_reply.proofs.ReplyParts.{digest-parts}
use Rattle.era_reply.proofs.answers.give_digest.Goals as goal

pub returns-clause-added : goal.returns-clause-added
returns-clause-added g c =
    subst (λ bytes. Adds (g.K.Sink.given c.args.sink.now) c.args.text.now (g.K.Sink.given c.give_parts.new.sink) c.give_parts.new.text bytes c.give_parts.result)
    (digest-parts c.args.era c.args.page) (rw (c.from.ensures, c.widen.ensures) at c.give_parts.ensures.added)
