use Rattle.std.proofs.Common.{◌≡◌, ℕ, List, ◌++◌, length}
use Rattle.era_line.specs.TextBuffer.{Gathers}
use Rattle.era_line.proofs.text_buffer.TextBuffer.add.Given as goal

-- the text went on by the bytes so far, and the sink has not failed
abbrev pub invariant-loop-rest : goal.invariant-loop-rest
invariant-loop-rest g l =
    (done : List ℕ) × (l.bytes ≡ done ++ l.rest)
    × ((before text : List ℕ) → Gathers before text (g.K.Sink.given l.initial.sink) l.initial.self → Gathers before (text ++ done) (g.K.Sink.given l.sink) l.self)
    × (g.K.Sink.faults l.sink ≡ g.K.Sink.faults l.initial.sink)

abbrev pub decreases-loop-rest : goal.decreases-loop-rest
decreases-loop-rest g l = length l.rest
