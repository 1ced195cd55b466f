-- A small root, and pages for it, as examples.
use Rattle.std.specs.Prelude.{ℕ, false, [], ◌∷◌, replicate}
use Rattle.era_layout.specs.Root.{RootFields}
use Rattle.era_meta.specs.Content.{Content}

-- The root of an origin of one block of 8 sectors in era 1, without a snapshot.
abbrev pub one_block : RootFields
one_block = record { sectors = 8; block_sectors = 8; era = 1; held = false; array = 3 ∷ []; current = 4 ∷ []; archive = [] }

-- A page of an era array and a page of a set, each of one byte and then zeros.
abbrev pub pages_beginning : ℕ → ℕ → Content
pages_beginning entry bits = record { array = (entry ∷ replicate 4095 0) ∷ []; current = (bits ∷ replicate 4095 0) ∷ []; archive = [] }
