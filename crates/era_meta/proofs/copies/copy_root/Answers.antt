use Rattle.std.proofs.Common.{arith}
use Rattle.era_meta.proofs.MetaTaken.{released-lists}
use Rattle.era_meta.proofs.copies.copy_root.Goals as goal

pub copy_lists-requires-clause-lists : goal.copy_lists-requires-clause-lists
copy_lists-requires-clause-lists c =
    let free = released-lists c.requires.width c.args.spare.now c.release_lists.new.spare c.args.root.now.archive c.release_lists.ensures.spare c.requires.lists c.requires.own in
    let count = free.1 in let enough = c.requires.enough in
    rw c.as_slice-3.ensures (record {
      width = c.requires.width;
      sizes = c.requires.sizes;
      lists = free.0;
      enough = omega arith;
      count = c.requires.count;
    })
