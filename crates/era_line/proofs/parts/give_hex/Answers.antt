use Rattle.std.proofs.Common.{[], ◌++◌, refl, ap, sym, ◌∙◌, subst, append_assoc}
use Rattle.hex.specs.Hex.{encode_lower}
use Rattle.era_line.proofs.Gathering.{halves}
use Rattle.era_line.proofs.PartSteps.{HasAdded, HasCut, added-none, added-then, cut-then, hex-append, hex-none}
use Rattle.era_line.proofs.parts.give_hex.Goals as goal

-- none was added at first
pub loop-rest-init : goal.loop-rest-init
loop-rest-init g c =
    let given = g.K.Sink.given c.args.sink.now in
    ([], refl, subst (HasAdded given c.args.text.now given c.args.text.now) (sym hex-none) (added-none given c.args.text.now), refl)

-- the sink failed at a piece
pub returns-in_default-clause-added : goal.returns-in_default-clause-added
returns-in_default-clause-added g c =
    let inv = c.loop-rest.invariant in
    let done = inv.0 in
    let now = c.split_at.result.0.now in
    let later = c.split_at.result.1.now in
    let rest = halves _ c.loop-rest.rest.now now later c.split_at.ensures.front c.split_at.ensures.back in
    subst (HasCut (g.K.Sink.given c.args.sink.now) c.args.text.now (g.K.Sink.given c.give_piece.new.sink))
    (ap (λ digits. encode_lower done ++ digits) (sym (hex-append now later)) ∙ sym (hex-append done (now ++ later))
    ∙ ap encode_lower (sym (inv.1 ∙ ap (λ bytes. done ++ bytes) rest)))
    (cut-then _ _ _ _ _ (encode_lower done) (encode_lower now) (encode_lower later) inv.2 c.in_default.ensures.added)

-- one piece more was added
pub loop-rest-preserved : goal.loop-rest-preserved
loop-rest-preserved g c =
    let inv = c.loop-rest.invariant in
    let done = inv.0 in
    let now = c.split_at.result.0.now in
    let later = c.split_at.result.1.now in
    let rest = halves _ c.loop-rest.rest.now now later c.split_at.ensures.front c.split_at.ensures.back in (
      done ++ now,
      inv.1 ∙ ap (λ bytes. done ++ bytes) rest ∙ sym (append_assoc done now later),
      subst (HasAdded (g.K.Sink.given c.args.sink.now) c.args.text.now (g.K.Sink.given c.give_piece.new.sink) c.give_piece.new.text)
          (sym (hex-append done now))
          (added-then _ _ _ _ _ _ (encode_lower done) (encode_lower now) inv.2 c.in-Ok.ensures.added),
      c.in-Ok.ensures.cause.kept ∙ inv.3,
    )
