use Rattle.std.proofs.Common.{◌≡◌, ℕ, List, length}
use Rattle.era_meta.proofs.AreasPrepared.{all_lists}
use Rattle.era_meta.proofs.areas.number_pages.Goals as goal

pub archive_sets-requires-clause-lists : goal.archive_sets-requires-clause-lists
archive_sets-requires-clause-lists c =
    rw (c.release_lists.ensures.spare, c.bit_pages-width.ensures)
    (all_lists (λ (pages : List ℕ). length pages ≡ _) c.args.spare.now c.args.next.now.archive c.requires.lists.spare c.requires.lists.sets)
