use Rattle.std.proofs.Common.{◌≡◌, sym, ◌∙◌, ap, subst}
use Rattle.std.proofs.lemmas.List.{with_items_is}
use Rattle.std.specs.Vec.{with_items}
use Rattle.era_disks.specs.Rows.{bytes_of}
use Rattle.era_disks.specs.MemDisk.{state_of}
use Rattle.era_disks.specs.Tears.{torn_rows, IsFilled}
use Rattle.era_disks.specs.declared.tear.Tear.{Tear}
use Rattle.era_disks.specs.declared.tear.Tear.TheVariants.{Keep, Old, Fill}
use Rattle.era_disks.proofs.TornRows.{torn-left, torn-is, torn-keep, torn-old, torn-filled}
use Rattle.era_disks.proofs.mem_state.MemState.crash.Goals as goal

pub returns-in_err-tear_rows-clause-image : goal.returns-in_err-tear_rows-clause-image
returns-in_err-tear_rows-clause-image c =
    let old = c.args.self.now in
    let rows_is : (with_items old.rows c.tear_rows.new.rows).items ≡ c.tear_rows.new.rows =
    with_items_is old.rows c.tear_rows.new.rows (c.tear_rows.auto.rows ∙ c.as_mut_slice-2.ensures.len) in
    torn-left old.pending.items c.as_slice.result.now old.rows.items c.as_mut_slice-2.result.now c.tear_rows.new.rows _
    c.as_slice.ensures.value c.as_mut_slice-2.ensures.value rows_is c.tear_rows.ensures.clean

pub returns-clause-image : goal.returns-clause-image
returns-clause-image c =
    let old = c.args.self.now in
    let rows_is : (with_items old.rows c.tear_rows.new.rows).items ≡ c.tear_rows.new.rows =
    with_items_is old.rows c.tear_rows.new.rows (c.tear_rows.auto.rows ∙ c.as_mut_slice-2.ensures.len) in
    torn-left old.pending.items c.as_slice.result.now old.rows.items c.as_mut_slice-2.result.now c.tear_rows.new.rows c.clean.new.self.rows.items
    c.as_slice.ensures.value c.as_mut_slice-2.ensures.value (c.clean.ensures.rows ∙ rows_is) c.tear_rows.ensures.clean

pub returns-clause-keep : goal.returns-clause-keep
returns-clause-keep c = λ is.
    let old = c.args.self.now in
    let rows_is : (with_items old.rows c.tear_rows.new.rows).items ≡ c.tear_rows.new.rows =
    with_items_is old.rows c.tear_rows.new.rows (c.tear_rows.auto.rows ∙ c.as_mut_slice-2.ensures.len) in
    let torn = λ (tear : Tear) (e : c.args.tear ≡ tear).
    torn-is tear old.pending.items c.as_slice.result.now old.kept.items c.as_mut_slice.result.now old.rows.items c.as_mut_slice-2.result.now
    c.tear_rows.new.rows c.clean.new.self.rows.items c.as_slice.ensures.value c.as_mut_slice.ensures.value c.as_mut_slice-2.ensures.value
    (c.clean.ensures.rows ∙ rows_is)
    (c.in_ok-tear_rows.ensures.torn ∙ ap (λ t. torn_rows t c.as_slice.result.now c.as_mut_slice.result.now c.as_mut_slice-2.result.now) e) in
    ap bytes_of (torn Keep is ∙ torn-keep old.pending.items old.kept.items old.rows.items (old.each ∙ sym old.same) (sym old.same))

pub returns-clause-old : goal.returns-clause-old
returns-clause-old c = λ is.
    let old = c.args.self.now in
    let rows_is : (with_items old.rows c.tear_rows.new.rows).items ≡ c.tear_rows.new.rows =
    with_items_is old.rows c.tear_rows.new.rows (c.tear_rows.auto.rows ∙ c.as_mut_slice-2.ensures.len) in
    let torn = λ (tear : Tear) (e : c.args.tear ≡ tear).
    torn-is tear old.pending.items c.as_slice.result.now old.kept.items c.as_mut_slice.result.now old.rows.items c.as_mut_slice-2.result.now
    c.tear_rows.new.rows c.clean.new.self.rows.items c.as_slice.ensures.value c.as_mut_slice.ensures.value c.as_mut_slice-2.ensures.value
    (c.clean.ensures.rows ∙ rows_is)
    (c.in_ok-tear_rows.ensures.torn ∙ ap (λ t. torn_rows t c.as_slice.result.now c.as_mut_slice.result.now c.as_mut_slice-2.result.now) e) in
    ap bytes_of (torn Old is ∙ torn-old old.pending.items old.kept.items old.rows.items)

pub returns-clause-fill : goal.returns-clause-fill
returns-clause-fill c = λ byte is.
    let old = c.args.self.now in
    let rows_is : (with_items old.rows c.tear_rows.new.rows).items ≡ c.tear_rows.new.rows =
    with_items_is old.rows c.tear_rows.new.rows (c.tear_rows.auto.rows ∙ c.as_mut_slice-2.ensures.len) in
    let torn = λ (tear : Tear) (e : c.args.tear ≡ tear).
    torn-is tear old.pending.items c.as_slice.result.now old.kept.items c.as_mut_slice.result.now old.rows.items c.as_mut_slice-2.result.now
    c.tear_rows.new.rows c.clean.new.self.rows.items c.as_slice.ensures.value c.as_mut_slice.ensures.value c.as_mut_slice-2.ensures.value
    (c.clean.ensures.rows ∙ rows_is)
    (c.in_ok-tear_rows.ensures.torn ∙ ap (λ t. torn_rows t c.as_slice.result.now c.as_mut_slice.result.now c.as_mut_slice-2.result.now) e) in
    subst (λ bytes. IsFilled byte (state_of old) bytes) (sym (ap bytes_of (torn (Fill byte) is)))
    (torn-filled byte old.pending.items old.kept.items old.rows.items (old.each ∙ sym old.same) (sym old.same))
