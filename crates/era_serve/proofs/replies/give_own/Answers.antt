use Rattle.std.proofs.Common.{◌≡◌, List, [], ◌∷◌, ◌++◌, ap, refl, ◌∙◌, subst}
use Rattle.std.specs.Borrow.{Bor}
use Rattle.era_line.specs.TextBuffer.{Adds}
use Rattle.era_model.specs.Transcript.{reply_line}
use Rattle.era_model.specs.declared.entry.Entry.{Entry}
use Rattle.era_reply.specs.Replies.{placed, trail_of}
use Rattle.era_session.specs.Trails.{lent, with_places, session_trail}
use Rattle.era_serve.proofs.replies.give_own.Goals as goal

-- entries that are lent, as a reply takes them
trail-lent : (entries : List (Bor Entry)) → trail_of entries ≡ with_places (lent entries)
trail-lent [] = refl
trail-lent (entry ∷ entries) = ap (λ rest. placed entry.now ∷ rest) (trail-lent entries)

-- the reply is that of the session's trail
pub returns-clause-added : goal.returns-clause-added
returns-clause-added g c =
    let trail = trail-lent c.trail-own.result.items ∙ ap with_places (c.trail-own.ensures ∙ ap (λ es. lent es ++ session_trail c.args.session.now c.args.command.now.task) c.requires.none) in
    subst (λ events. Adds (g.K.Sink.given c.args.sink.now) c.args.text.now (g.K.Sink.given c.give_reply.new.sink) c.give_reply.new.text (reply_line c.args.command.now.line events) c.give_reply.result)
    (ap trail_of c.as_slice.ensures.value ∙ trail) c.give_reply.ensures.added
