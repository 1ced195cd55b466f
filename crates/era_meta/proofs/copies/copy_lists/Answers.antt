use Rattle.std.proofs.Common.{ℕ, List, ap, ◌∙◌}
use Rattle.era_layout.specs.declared.archive.Archived.{Archived}
use Rattle.era_meta.proofs.CopiedSets.{copied-step}
use Rattle.era_meta.proofs.copies.copy_lists.Goals as goal

-- one set more
pub loop-set-preserved : goal.loop-set-preserved
loop-set-preserved c =
    let set = c.set-item.result in
    rw c.push_reserved.ensures
    (copied-step c.args.sets.now c.args.spare.now c.loop-set.set-index c.loop-set.archive c.loop-set.spare set _ c.take_first-pages.result c.take_first-pages.new.self
    c.loop-set-test.true c.set-item.is c.loop-set.invariant c.take_first-pages.ensures
    (ap (λ (pages : List ℕ). let x : Archived = record { era = set.era; pages = pages } in x) (c.copy_from.ensures ∙ c.as_slice.ensures)))
