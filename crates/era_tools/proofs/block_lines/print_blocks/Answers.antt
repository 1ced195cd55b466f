use Rattle.std.proofs.Common.{[], refl, inl, inr}
use Rattle.era_tools.specs.ToolLines.{blocks_text}
use Rattle.era_tools.proofs.block_lines.print_blocks.Goals as goal

-- the sink failed at a line
pub returns-in_default-clause-printed : goal.returns-in_default-clause-printed
returns-in_default-clause-printed g c =
    inr (
      refl,
      (λ before is. (rw c.as_slice.ensures.value at c.in_default.ensures.added) before [] (c.new-text.ensures before (g.K.Sink.given c.args.sink.now) is)),
    )

-- it failed at what was gathered
pub returns-in_default-flush-clause-printed : goal.returns-in_default-flush-clause-printed
returns-in_default-flush-clause-printed g c = inr (
  refl,
  (λ before is.
      c.in_default-flush.ensures.flushed before (blocks_text c.args.runs.now)
      ((rw c.as_slice.ensures.value at c.in-Ok.ensures.added) before [] (c.new-text.ensures before (g.K.Sink.given c.args.sink.now) is))),
)

-- all lines were given
pub returns-clause-printed : goal.returns-clause-printed
returns-clause-printed g c = inl (
  refl,
  (λ before is.
      c.in-Ok-flush.ensures.flushed before (blocks_text c.args.runs.now)
      ((rw c.as_slice.ensures.value at c.in-Ok.ensures.added) before [] (c.new-text.ensures before (g.K.Sink.given c.args.sink.now) is))),
)
