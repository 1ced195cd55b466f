use Rattle.std.proofs.Common.{◌∙◌, arith, refl}
use Rattle.era_line.proofs.Gathering.{filled-up, piece-given}
use Rattle.era_line.proofs.text_buffer.TextBuffer.add_within.Goals as goal

-- the piece was full and was given
pub returns-clause-added : goal.returns-clause-added
returns-clause-added g c = λ before text was.
    let old = c.args.self.now in
    let bytes = c.args.bytes.now in
    let full = filled-up old.held _ old.bytes bytes c.copy_from_slice.new.self c.copy_from_slice.ensures.after (omega arith)
    (omega (arith, old.sized, c.requires, c.if-end-lt-PIECE.false)) in
    piece-given before text bytes c.as_slice.result.now (g.K.Sink.given c.args.sink.now) (g.K.Sink.given c.give.new.self) old _ c.give.result
    (c.as_slice.ensures ∙ full) refl c.give.ensures.given was
