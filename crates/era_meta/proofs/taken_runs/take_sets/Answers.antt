use Rattle.std.proofs.Common.{◌≡◌, ℕ, ◌+◌, ◌∷◌, length, drop, refl, sym, ap, ◌∙◌, subst, arith}
use Rattle.std.proofs.lemmas.List.{length-append}
use Rattle.era_base.specs.Flags.{has}
use Rattle.era_base.specs.Runs.{ListExactly}
use Rattle.era_model.specs.MarkRuns.{SetEndsWithin}
use Rattle.era_model.specs.Marks.{ArchivedSet}
use Rattle.era_meta.proofs.AreasNumbered.{behind}
use Rattle.era_meta.proofs.Firsts.{all_more}
use Rattle.era_meta.proofs.TakenRuns.{sets-end-at, spare-size, taken-step}
use Rattle.era_meta.proofs.taken_runs.take_sets.Goals as goal

pub take_set_runs-requires : goal.take_set_runs-requires
take_set_runs-requires c =
    let blocks = c.args.blocks in let at = c.loop-set.set-index in
    let is : drop at c.args.spare.now ≡ c.take_first.result ∷ c.take_first.new.self = sym c.loop-set.invariant.spare ∙ c.take_first.ensures in
    let size : length c.into_blocks-taken.result ≡ blocks = ap length c.into_blocks-taken.ensures ∙ spare-size blocks c.args.spare.now _ at _ is c.requires.sizes.0 in
    let ends = sets-end-at blocks c.args.sets.now at c.set-item.result c.requires.within (omega arith) c.set-item.is in (
      subst (λ (n : ℕ). SetEndsWithin n c.as_slice.result.now) (sym size) (subst (SetEndsWithin blocks) (sym c.as_slice.ensures.value) ends),
      omega (arith, size, c.requires.sizes.1),
    )

pub loop-set-preserved : goal.loop-set-preserved
loop-set-preserved c =
    let blocks = c.args.blocks in let at = c.loop-set.set-index in let told = c.set-item.result in
    let is : drop at c.args.spare.now ≡ c.take_first.result ∷ c.take_first.new.self = sym c.loop-set.invariant.spare ∙ c.take_first.ensures in
    let size : length c.take_set_runs.new.set ≡ blocks
    = c.take_set_runs.ensures.size ∙ ap length c.into_blocks-taken.ensures ∙ spare-size blocks c.args.spare.now _ at _ is c.requires.sizes.0 in
    let ends = sets-end-at blocks c.args.sets.now at told c.requires.within (omega arith) c.set-item.is in
    let set : ArchivedSet = record { era = told.era; blocks = c.take_set_runs.new.set } in
    let exact = subst (λ runs. ListExactly runs (has c.take_set_runs.new.set)) c.as_slice.ensures.value c.take_set_runs.ensures.told in
    let count = c.loop-set.invariant.count in
    rw c.push_reserved.ensures (record {
      sizes = all_more (λ (one : ArchivedSet). length one.blocks ≡ blocks) c.loop-set.archive c.new.result c.loop-set.invariant.sizes
          (subst (λ (one : ArchivedSet). length one.blocks ≡ blocks) (sym c.new.ensures) size);
      told = taken-step c.args.sets.now blocks at c.loop-set.archive told set c.new.result (omega arith) c.set-item.is c.loop-set.invariant.told c.new.ensures refl
          (record { within = ends; exact = exact });
      count = length-append c.loop-set.archive _ ∙ ap (λ (n : ℕ). n + 1) count;
      spare = behind c.args.spare.now at _ _ is;
    })
