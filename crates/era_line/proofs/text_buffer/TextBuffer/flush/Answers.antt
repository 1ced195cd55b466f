use Rattle.era_line.proofs.Gathering.{rest-given}
use Rattle.era_line.proofs.text_buffer.TextBuffer.flush.Goals as goal

-- what was held was given
pub returns-clause-flushed : goal.returns-clause-flushed
returns-clause-flushed g c = λ before text was.
    rest-given before text c.split_at.result.0.now (g.K.Sink.given c.args.sink.now) (g.K.Sink.given c.give.new.self) c.args.self.now c.give.result
    c.split_at.ensures.front c.give.ensures.given was
