use Rattle.std.proofs.Common.{◌++◌, ap, sym, ◌∙◌, subst, append_assoc}
use Rattle.era_base.specs.Streams.{GivesFront}
use Rattle.era_line.specs.TextBuffer.{Gathers}
use Rattle.era_line.proofs.Gathering.{front-longer, halves}
use Rattle.era_line.proofs.text_buffer.TextBuffer.add.Goals as goal

-- the sink failed at a piece
pub returns-in_default-clause-added : goal.returns-in_default-clause-added
returns-in_default-clause-added g c = λ before text was.
    let inv = c.loop-rest.invariant in
    let done = inv.0 in
    let now = c.split_at.result.0.now in
    let later = c.split_at.result.1.now in
    let rest = halves _ c.loop-rest.rest.now now later c.split_at.ensures.front c.split_at.ensures.back in
    subst (λ all. GivesFront before all (g.K.Sink.given c.add_within.new.sink))
    (append_assoc (text ++ done) now later ∙ append_assoc text done (now ++ later) ∙ ap (λ bs. text ++ bs) (sym (inv.1 ∙ ap (λ bs. done ++ bs) rest)))
    (front-longer before ((text ++ done) ++ now) later (g.K.Sink.given c.add_within.new.sink) (c.in_default.ensures.added before (text ++ done) (inv.2 before text was)))

-- one piece more
pub loop-rest-preserved : goal.loop-rest-preserved
loop-rest-preserved g c =
    let inv = c.loop-rest.invariant in
    let done = inv.0 in
    let now = c.split_at.result.0.now in
    let later = c.split_at.result.1.now in
    let rest = halves _ c.loop-rest.rest.now now later c.split_at.ensures.front c.split_at.ensures.back in (
      done ++ now,
      inv.1 ∙ ap (λ bs. done ++ bs) rest ∙ sym (append_assoc done now later),
      (λ before text was.
          subst (λ all. Gathers before all (g.K.Sink.given c.add_within.new.sink) c.add_within.new.self) (append_assoc text done now)
          (c.in-Ok.ensures.added before (text ++ done) (inv.2 before text was))),
      c.in-Ok.ensures.cause.kept ∙ inv.3,
    )
