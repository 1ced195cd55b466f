use Rattle.era_opening.proofs.OpenedLent.{opened-lent}
use Rattle.era_opening.proofs.opening.open_lent.Goals as goal

pub returns-in-Ok-lend_metadata-clause-opened : goal.returns-in-Ok-lend_metadata-clause-opened
returns-in-Ok-lend_metadata-clause-opened g c =
    opened-lent g.B.Bay c.args.bay.now c.lend_metadata.new.bay c.open_parts.new.bay g.B.D.Disk c.args.line.now c.args.geometry c.args.split c.in-Ok-lend_metadata.metadata c.open_parts.result
    c.in-Ok-lend_metadata.ensures.lent c.open_parts.ensures.sizes c.open_parts.ensures.opened

pub returns-in-Ok-lend_metadata-clause-sizes : goal.returns-in-Ok-lend_metadata-clause-sizes
returns-in-Ok-lend_metadata-clause-sizes g c device size told = c.open_parts.ensures.sizes device size (c.lend_metadata.ensures.sizes device size told)
