use Rattle.std.proofs.Common.{◌≡◌, true, sym, ◌∙◌, subst, arith}
use Rattle.era_layout.specs.declared.archive.Archived.{Archived}
use Rattle.era_meta.specs.Usage.{has_number}
use Rattle.era_meta.proofs.Usages.{has-at}
use Rattle.era_meta.proofs.usage.has_set_page.Goals as goal

pub returns-then-contains : goal.returns-then-contains
returns-then-contains c =
    let sets = c.args.sets.now in
    let found : has_number c.set-item.result.pages c.args.block ≡ true = rw c.as_slice.ensures at (sym c.contains.ensures.value ∙ c.if-contains.true) in
    sym (has-at sets c.loop-set.set-index c.set-item.result c.args.block (omega arith)
    (subst (λ (set : Archived). has_number set.pages c.args.block ≡ true) c.set-item.is found))
