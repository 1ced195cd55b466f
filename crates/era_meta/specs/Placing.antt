-- Where the pages of the next root stand beside a committed root and its held root.
use Rattle.std.specs.Prelude.{◌≡◌, length, Option}
use Rattle.era_layout.specs.Root.{RootFields, pages_of}
use Rattle.era_meta.specs.Areas.{page_count, TakesNextBlocks}
use Rattle.era_meta.specs.Content.{blocks_of_root}
use Rattle.era_meta.specs.Meaning.{reached}
use Rattle.era_meta.specs.Putting.{ArePagesFresh}

-- The pages of the next root take the least free page area, or single free blocks where none is free: so they are none of the committed root's nor of the held one's.
pub record IsPlaced (root next : RootFields) (held : Option RootFields) : Type 0 where
  pub blocks : TakesNextBlocks (blocks_of_root root) (reached root held) next
  pub count : length (pages_of next) ≡ page_count (blocks_of_root root) (length next.archive)
  pub fresh : ArePagesFresh (pages_of next) root next held
