use Rattle.std.proofs.Common.{◌≡◌, ◌<◌, ◌∷◌, length, length-set, drop, sym, ◌∙◌, arith}
use Rattle.std.proofs.lemmas.List.{take_more_set}
use Rattle.era_meta.proofs.AreasNumbered.{behind, take-next}
use Rattle.era_meta.proofs.free_blocks.number_list.Goals as goal

pub loop-index-preserved : goal.loop-index-preserved
loop-index-preserved c =
    let at = c.loop-index.index in let free = c.args.free.now in let block = c.take-block.result in
    let inside : at < length c.loop-index.pages = omega (arith, c.loop-index.invariant.size) in
    let is : drop at free ≡ block ∷ c.take-block.new.self = sym c.loop-index.invariant.left ∙ c.take-block.ensures in
    record {
      size = rw (c.set.ensures, length-set) c.loop-index.invariant.size;
      front = rw (c.set.ensures, take_more_set c.loop-index.pages at block inside, c.loop-index.invariant.front) (sym (take-next free at block c.take-block.new.self is));
      left = behind free at block c.take-block.new.self is;
    }
