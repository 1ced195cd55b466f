use Rattle.era_plan.specs.Kinds.{kind_text}
use Rattle.era_run.proofs.LineParts.{line-parts, source-parts}
use Rattle.era_run.proofs.lines.give_stop.Goals as goal

-- a line was refused
pub returns-in-Line-clause-added : goal.returns-in-Line-clause-added
returns-in-Line-clause-added g c = λ before text is.
    rw (c.in-Line.is, line-parts c.in-Line.refused.line (kind_text c.in-Line.refused.kind))
    (rw (c.from.ensures, c.as_bytes.ensures.value, c.kind_text.ensures) at (c.give_parts.ensures.added before text is))

-- the source failed
pub returns-in-Source-clause-added : goal.returns-in-Source-clause-added
returns-in-Source-clause-added g c = λ before text is.
    rw (c.in-Source.is, source-parts c.in-Source.count) (c.give_parts-in-Source.ensures.added before text is)
