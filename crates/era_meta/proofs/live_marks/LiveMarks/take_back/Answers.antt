use Rattle.std.proofs.Common.{◌≡◌, ◌∷◌, length, sym, ap, ◌∙◌, subst, arith}
use Rattle.std.specs.List.{AllByRecursion}
use Rattle.era_base.specs.Geometry.{blocks_of}
use Rattle.era_model.specs.Marks.{ArchivedSet}
use Rattle.era_model.specs.Validity.{AreValidMarks}
use Rattle.era_meta.proofs.DroppedSets.{back-whole}
use Rattle.era_meta.proofs.live_marks.LiveMarks.take_back.Goals as goal

pub invariant_of-self : goal.invariant_of-self
invariant_of-self c =
    let m = c.self.inside in let blocks = blocks_of m.geometry.sectors m.geometry.block_sectors in
    let spare = subst (AllByRecursion (λ (set : ArchivedSet). length set.blocks ≡ blocks)) c.take_first.ensures c.self.invariant.sizes in
    let size : length c.into_blocks-blocks.result ≡ blocks = ap length c.into_blocks-blocks.ensures ∙ spare.0 in
    let front : c.last_to_front.new.sets ≡ c.new.result ∷ m.archive = c.last_to_front.ensures m.archive c.new.result c.push_reserved.ensures in
    let whole = back-whole _ c.args.self.now c.requires.0 c.args.era c.args.words.now c.last_to_front.new.sets c.refill.new.set c.self.view_is c.requires.1
    (front ∙ ap (λ (one : ArchivedSet). one ∷ m.archive) c.new.ensures) (λ flags same bits. c.refill.ensures flags (same ∙ sym size) bits) in
    record {
      valid = subst AreValidMarks (sym whole) c.requires.1.valid;
      sizes = spare.1;
      sets = let left = ap length c.take_first.ensures in let one = ap length front in let all = c.self.invariant.sets in omega arith;
    }

pub returns : goal.returns
returns c = λ before was.
    let m = c.self.inside in let blocks = blocks_of m.geometry.sectors m.geometry.block_sectors in
    let spare = subst (AllByRecursion (λ (set : ArchivedSet). length set.blocks ≡ blocks)) c.take_first.ensures c.self.invariant.sizes in
    let size : length c.into_blocks-blocks.result ≡ blocks = ap length c.into_blocks-blocks.ensures ∙ spare.0 in
    let front : c.last_to_front.new.sets ≡ c.new.result ∷ m.archive = c.last_to_front.ensures m.archive c.new.result c.push_reserved.ensures in
    back-whole _ c.args.self.now before c.args.era c.args.words.now c.last_to_front.new.sets c.refill.new.set c.self.view_is was
    (front ∙ ap (λ (one : ArchivedSet). one ∷ m.archive) c.new.ensures) (λ flags same bits. c.refill.ensures flags (same ∙ sym size) bits)
