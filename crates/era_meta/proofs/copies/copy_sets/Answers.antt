use Rattle.std.proofs.Common.{◌≡◌, ℕ, length, sym, ap, ◌∙◌}
use Rattle.era_base.specs.Flags.{has}
use Rattle.era_model.specs.Marks.{ArchivedSet}
use Rattle.era_meta.proofs.CopiedSets.{at-item, copied-step, next-spare}
use Rattle.era_meta.proofs.DroppedSets.{a_set}
use Rattle.era_meta.proofs.copies.copy_sets.Goals as goal

-- one set more
pub loop-set-preserved : goal.loop-set-preserved
loop-set-preserved c =
    let set = c.set-item.result in let blocks = c.requires.sizes.0 in let at = c.loop-set.set-index in
    let own : length set.blocks ≡ blocks = at-item (λ (one : ArchivedSet). length one.blocks ≡ blocks) c.args.sets.now at set c.requires.sizes.1 c.loop-set-test.true c.set-item.is in
    let spare : length c.take_first.result.blocks ≡ blocks
    = next-spare (λ (one : ArchivedSet). length one.blocks ≡ blocks) c.args.spare.now c.loop-set.spare at c.take_first.result c.take_first.new.self c.requires.sizes.2
    c.loop-set.invariant.left_are c.take_first.ensures in
    let flags : c.refill.new.set ≡ set.blocks
    = c.refill.ensures set.blocks (own ∙ sym (ap length c.into_blocks-blocks.ensures ∙ spare)) (λ k. c.words.ensures.bits k ∙ ap (λ bits. has bits k) c.blocks-in-loop-set.ensures) in
    rw c.push_reserved.ensures
    (copied-step c.args.sets.now c.args.spare.now at c.loop-set.archive c.loop-set.spare set c.new.result c.take_first.result c.take_first.new.self
    c.loop-set-test.true c.set-item.is c.loop-set.invariant c.take_first.ensures
    (c.new.ensures ∙ (ap (λ (era : ℕ). a_set era c.refill.new.set) c.era.ensures ∙ ap (a_set set.era) flags)))
