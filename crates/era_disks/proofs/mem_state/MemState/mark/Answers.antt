use Rattle.std.proofs.Common.{◌≡◌, ℕ, ◌+◌, ◌-◌, ◌≤◌, Bool, List, length, arith, sym, ◌∙◌, ap}
use Rattle.std.specs.Prelude.{Option}
use Rattle.std.proofs.lemmas.List.{with_items_is}
use Rattle.std.specs.Vec.{with_items}
use borrow.Rule.Slice.PartMut.{put_mid}
use Rattle.era_disks.specs.Rows.{bytes_of}
use Rattle.era_disks.proofs.RowParts.{length-mid, length-part}
use Rattle.era_disks.proofs.SyncedRows.{mark-synced}
use Rattle.era_disks.proofs.mem_state.MemState.mark.Goals as goal

pub returns-clause-synced : goal.returns-clause-synced
returns-clause-synced c =
    let old = c.args.self.now in
    let count : ℕ = c.args.first + c.args.sectors - c.args.first in
    let fits : c.args.first + count ≤ length c.deref_mut-2.result.now = omega (arith, ap length c.deref_mut-2.ensures.value, old.same) in
    let fits_kept : c.args.first + count ≤ length c.deref_mut.result.now = omega (arith, ap length c.deref_mut.ensures.value, old.each) in
    let sized : length c.fill.new.self ≡ count = c.fill.ensures.len ∙ length-part c.args.first count c.deref_mut-2.result.now fits in
    let sized_kept : length c.forget_rows.new.kept ≡ count = c.forget_rows.auto.kept ∙ length-part c.args.first count c.deref_mut.result.now fits_kept in
    let flags_is : (with_items old.pending (put_mid c.args.first count c.deref_mut-2.result.now c.fill.new.self)).items
    ≡ put_mid c.args.first count old.pending.items c.fill.new.self =
    with_items_is old.pending (put_mid c.args.first count c.deref_mut-2.result.now c.fill.new.self)
    (length-mid c.args.first count c.deref_mut-2.result.now c.fill.new.self fits sized ∙ c.deref_mut-2.ensures.len)
    ∙ ap (λ (xs : List Bool). put_mid c.args.first count xs c.fill.new.self) c.deref_mut-2.ensures.value in
    let kept_is : (with_items old.kept (put_mid c.args.first count c.deref_mut.result.now c.forget_rows.new.kept)).items
    ≡ put_mid c.args.first count old.kept.items c.forget_rows.new.kept =
    with_items_is old.kept (put_mid c.args.first count c.deref_mut.result.now c.forget_rows.new.kept)
    (length-mid c.args.first count c.deref_mut.result.now c.forget_rows.new.kept fits_kept sized_kept ∙ c.deref_mut.ensures.len)
    ∙ ap (λ (xs : List (Option (List ℕ))). put_mid c.args.first count xs c.forget_rows.new.kept) c.deref_mut.ensures.value in
    ap bytes_of (mark-synced c.args.first count old.pending.items c.deref.result.now c.deref_mut-2.result.now c.fill.new.self _
    old.kept.items c.deref_mut.result.now c.forget_rows.new.kept _ old.rows.items
    c.deref.ensures.value c.deref_mut-2.ensures.value c.deref_mut.ensures.value (old.each ∙ sym old.same) (sym old.same)
    (omega (arith, ap length c.deref_mut-2.ensures.value)) (c.fill.ensures.after (λ y same. same)) flags_is sized_kept kept_is c.forget_rows.ensures)
