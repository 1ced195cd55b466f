use Rattle.std.proofs.Common.{◌≡◌, false, length, replicate, sym, ◌∙◌, ap}
use Rattle.std.proofs.lemmas.List.{length-replicate}
use Rattle.era_disks.specs.Tears.{synced_rows}
use Rattle.era_disks.proofs.TornRows.{synced-clean}
use Rattle.era_disks.specs.Rows.{bytes_of}
use Rattle.era_disks.proofs.RowParts.{bytes_of-blank}
use Rattle.era_disks.proofs.States.{state-same}
use Rattle.era_disks.proofs.mem_state.MemState.new.Goals as goal

pub returns-clause-state : goal.returns-clause-state
returns-clause-state c =
    state-same _ _ _ _ (ap bytes_of c.in_ok-rows.ensures ∙ bytes_of-blank c.args.sectors) (c.in_ok-pending.ensures.items_if_clones_equal (λ y same. same))

pub returns-clause-synced : goal.returns-clause-synced
returns-clause-synced c =
    let size : length c.in_ok-rows.rows.items ≡ c.args.sectors = ap length c.in_ok-rows.ensures ∙ length-replicate c.args.sectors _ in
    ap bytes_of (ap (λ flags. synced_rows flags c.in_ok-kept.kept.items c.in_ok-rows.rows.items)
    (c.in_ok-pending.ensures.items_if_clones_equal (λ y same. same) ∙ ap (λ n. replicate n false) (sym size))
    ∙ synced-clean c.in_ok-kept.kept.items c.in_ok-rows.rows.items (c.in_ok-kept.ensures ∙ sym size))
