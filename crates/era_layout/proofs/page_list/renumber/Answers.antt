use Rattle.std.proofs.Common.{◌<◌, length, refl, arith, length-set}
use Rattle.std.proofs.lemmas.List.{take_more_set}
use Rattle.era_layout.proofs.Numbering.{numbers_more}
use Rattle.era_layout.proofs.page_list.renumber.Goals as goal

pub loop-index-preserved : goal.loop-index-preserved
loop-index-preserved c =
    let inside : c.loop-index.index < length c.loop-index.pages = omega (arith, c.loop-index.invariant.size) in
    record {
      size = rw (c.set.ensures, length-set) c.loop-index.invariant.size;
      front = rw (c.set.ensures, take_more_set c.loop-index.pages c.loop-index.index _ inside, c.loop-index.invariant.front, numbers_more) refl;
    }
