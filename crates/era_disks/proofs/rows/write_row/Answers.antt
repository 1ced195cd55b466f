use Rattle.std.proofs.Common.{◌∙◌, ap}
use Rattle.era_disks.specs.Rows.{sector_bytes, sector_bytes-full}
use Rattle.era_disks.proofs.rows.write_row.Goals as goal

pub returns-then-is_none-clause-written : goal.returns-then-is_none-clause-written
returns-then-is_none-clause-written c =
    ap sector_bytes (c.replace-old.ensures.after ∙ c.in_ok-new.ensures) ∙ sector_bytes-full c.args.bytes.now c.requires

pub returns-else-is_none-clause-written : goal.returns-else-is_none-clause-written
returns-else-is_none-clause-written c =
    ap sector_bytes (c.replace-old.ensures.after ∙ c.in_ok-new.ensures) ∙ sector_bytes-full c.args.bytes.now c.requires
