use Rattle.std.proofs.Common.{true, take, drop, replicate, sym, ◌≡◌, ℕ, ◌+◌, ◌-◌, ◌*◌, ◌/◌, ◌≤◌, List, length, arith, ◌∙◌, ap}
use Rattle.std.proofs.lemmas.List.{with_items_is}
use Rattle.std.specs.Vec.{with_items}
use Rattle.std.specs.Prelude.{Option}
use borrow.Rule.Slice.PartMut.{put_mid}
use Rattle.era_disks.proofs.RowParts.{length-mid, length-part}
use Rattle.era_disks.proofs.SyncedRows.{put-synced}
use Rattle.era_disks.specs.Rows.{bytes_of}
use Rattle.era_disks.proofs.States.{written-same, written-seen, on_ok_then}
use Rattle.era_disks.proofs.mem_state.MemState.put.Goals as goal

pub returns-clause-written : goal.returns-clause-written
returns-clause-written c =
    let count : ℕ = c.args.first + length c.args.bytes.now / 512 - c.args.first in
    let whole : length c.args.bytes.now ≡ count * 512 = omega arith in
    let fits : c.args.first + count ≤ length c.deref_mut-2.result.now = omega (arith, ap length c.deref_mut-2.ensures.value) in
    let sized : length c.write_rows.new.rows ≡ count =
    c.write_rows.auto.rows ∙ length-part c.args.first count c.deref_mut-2.result.now fits in
    let is : (with_items c.args.self.now.rows (put_mid c.args.first count c.deref_mut-2.result.now c.write_rows.new.rows)).items
    ≡ put_mid c.args.first count c.args.self.now.rows.items c.write_rows.new.rows =
    with_items_is c.args.self.now.rows (put_mid c.args.first count c.deref_mut-2.result.now c.write_rows.new.rows)
    (length-mid c.args.first count c.deref_mut-2.result.now c.write_rows.new.rows fits sized ∙ c.deref_mut-2.ensures.len)
    ∙ ap (λ (xs : List (List ℕ)). put_mid c.args.first count xs c.write_rows.new.rows) c.deref_mut-2.ensures.value in
    on_ok_then c.write_rows.result c.write_rows.ensures.written
    (λ same. written-seen c.args.self.now.rows.items _ c.write_rows.new.rows c.args.bytes.now c.args.first count is sized same)

pub returns-clause-same : goal.returns-clause-same
returns-clause-same c =
    let count : ℕ = c.args.first + length c.args.bytes.now / 512 - c.args.first in
    let whole : length c.args.bytes.now ≡ count * 512 = omega arith in
    let fits : c.args.first + count ≤ length c.deref_mut-2.result.now = omega (arith, ap length c.deref_mut-2.ensures.value) in
    let sized : length c.write_rows.new.rows ≡ count =
    c.write_rows.auto.rows ∙ length-part c.args.first count c.deref_mut-2.result.now fits in
    let is : (with_items c.args.self.now.rows (put_mid c.args.first count c.deref_mut-2.result.now c.write_rows.new.rows)).items
    ≡ put_mid c.args.first count c.args.self.now.rows.items c.write_rows.new.rows =
    with_items_is c.args.self.now.rows (put_mid c.args.first count c.deref_mut-2.result.now c.write_rows.new.rows)
    (length-mid c.args.first count c.deref_mut-2.result.now c.write_rows.new.rows fits sized ∙ c.deref_mut-2.ensures.len)
    ∙ ap (λ (xs : List (List ℕ)). put_mid c.args.first count xs c.write_rows.new.rows) c.deref_mut-2.ensures.value in
    let inside : c.args.first + count ≤ length c.args.self.now.rows.items = omega (arith, ap length c.deref_mut-2.ensures.value) in
    written-same c.args.self.now.rows.items _ c.write_rows.new.rows c.args.self.now.pending.items c.args.first count
    (length c.args.bytes.now) is inside sized whole

pub returns-clause-synced : goal.returns-clause-synced
returns-clause-synced c =
    let old = c.args.self.now in
    let count : ℕ = c.args.first + length c.args.bytes.now / 512 - c.args.first in
    let is_count : count ≡ length c.args.bytes.now / 512 = omega arith in
    let fits : c.args.first + count ≤ length c.deref_mut-2.result.now = omega (arith, ap length c.deref_mut-2.ensures.value) in
    let fits_kept : c.args.first + count ≤ length c.deref_mut.result.now = omega (arith, ap length c.deref_mut.ensures.value, old.each) in
    let sized : length c.write_rows.new.rows ≡ count = c.write_rows.auto.rows ∙ length-part c.args.first count c.deref_mut-2.result.now fits in
    let sized_kept : length c.write_rows.new.kept ≡ count = c.write_rows.auto.kept ∙ length-part c.args.first count c.deref_mut.result.now fits_kept in
    let rows_is : (with_items old.rows (put_mid c.args.first count c.deref_mut-2.result.now c.write_rows.new.rows)).items
    ≡ put_mid c.args.first count old.rows.items c.write_rows.new.rows =
    with_items_is old.rows (put_mid c.args.first count c.deref_mut-2.result.now c.write_rows.new.rows)
    (length-mid c.args.first count c.deref_mut-2.result.now c.write_rows.new.rows fits sized ∙ c.deref_mut-2.ensures.len)
    ∙ ap (λ (xs : List (List ℕ)). put_mid c.args.first count xs c.write_rows.new.rows) c.deref_mut-2.ensures.value in
    let kept_is : (with_items old.kept (put_mid c.args.first count c.deref_mut.result.now c.write_rows.new.kept)).items
    ≡ put_mid c.args.first count old.kept.items c.write_rows.new.kept =
    with_items_is old.kept (put_mid c.args.first count c.deref_mut.result.now c.write_rows.new.kept)
    (length-mid c.args.first count c.deref_mut.result.now c.write_rows.new.kept fits_kept sized_kept ∙ c.deref_mut.ensures.len)
    ∙ ap (λ (xs : List (Option (List ℕ))). put_mid c.args.first count xs c.write_rows.new.kept) c.deref_mut.ensures.value in
    let marked : take count (drop c.args.first old.pending.items) ≡ replicate count true =
    ap (λ n. take n (drop c.args.first old.pending.items)) is_count ∙ c.requires.marked ∙ ap (λ n. replicate n true) (sym is_count) in
    ap bytes_of (put-synced c.args.first count old.pending.items old.kept.items c.deref_mut.result.now c.write_rows.new.kept _
    old.rows.items c.deref_mut-2.result.now c.write_rows.new.rows _
    c.deref_mut.ensures.value c.deref_mut-2.ensures.value (old.each ∙ sym old.same) (sym old.same)
    (omega (arith, ap length c.deref_mut-2.ensures.value, old.same)) sized_kept sized kept_is rows_is marked c.write_rows.ensures.synced)
