use Rattle.std.proofs.Common.{◌++◌, refl, inl, inr}
use Rattle.era_line.specs.Parts.{parts_text}
use Rattle.era_top.proofs.session_lines.give_last.Goals as goal

-- the sink failed at a part
pub returns-in_default-clause-printed : goal.returns-in_default-clause-printed
returns-in_default-clause-printed g c = inr (refl, c.in_default.ensures.added)

-- it failed at what was gathered
pub returns-in_default-flush-clause-printed : goal.returns-in_default-flush-clause-printed
returns-in_default-flush-clause-printed g c = inr (
  refl,
  (λ before text is. c.in_default-flush.ensures.flushed before (text ++ parts_text c.args.parts.now) (c.in-Ok.ensures.added before text is)),
)

-- all was given
pub returns-clause-printed : goal.returns-clause-printed
returns-clause-printed g c = inl (
  refl,
  (λ before text is. c.in-Ok-flush.ensures.flushed before (text ++ parts_text c.args.parts.now) (c.in-Ok.ensures.added before text is)),
)
