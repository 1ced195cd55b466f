use Rattle.std.proofs.Common.{◌++◌, ℕ, List, sym, ◌∙◌, ap}
use Rattle.era_disks.specs.Rows.{sector_bytes}
use Rattle.era_disks.proofs.RowParts.{bytes_of-more}
use Rattle.era_disks.proofs.device.Device.content.Goals as goal

pub loop-row-preserved : goal.loop-row-preserved
loop-row-preserved c =
    c.in_ok-append_row.ensures
    ∙ ap (λ (bytes : List ℕ). bytes ++ sector_bytes c.row-item.result) c.loop-row.invariant
    ∙ sym (bytes_of-more c.as_slice-rows.result.now c.loop-row.row-index c.row-item.result c.loop-row-test.true c.row-item.is)
