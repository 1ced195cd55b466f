use Rattle.std.proofs.Common.{arith, sym, ◌∙◌}
use Rattle.era_disks.specs.Rows.{sector_bytes-full, sector_bytes-other}
use Rattle.era_disks.proofs.rows.read_row.Goals as goal

pub returns-then-len-eq512 : goal.returns-then-len-eq512
returns-then-len-eq512 c =
    c.copy_from_slice.ensures.after ∙ c.as_slice.ensures ∙ sym (sector_bytes-full c.args.row.now (omega arith))

pub returns-else-len-eq512 : goal.returns-else-len-eq512
returns-else-len-eq512 c =
    c.fill.ensures.after (λ y same. same) ∙ sym (sector_bytes-other c.args.row.now _ c.requires (λ full. omega arith))
