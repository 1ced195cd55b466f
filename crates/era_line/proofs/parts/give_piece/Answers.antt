use Rattle.std.proofs.Common.{ℕ, List, ◌*◌, length, subst}
use Rattle.era_line.specs.TextBuffer.{Adds}
use Rattle.era_line.proofs.PartSteps.{hex-length, spelled_front}
use Rattle.era_line.proofs.parts.give_piece.Goals as goal

pub returns-clause-added : goal.returns-clause-added
returns-clause-added g c =
    subst (λ (bytes : List ℕ). Adds (g.K.Sink.given c.args.sink.now) c.args.text.now (g.K.Sink.given c.add.new.sink) c.add.new.self bytes c.add.result)
    (spelled_front (2 * length c.args.bytes.now) _ _ _ c.in-Ok.ensures.written (hex-length c.args.bytes.now)) c.add.ensures.added
