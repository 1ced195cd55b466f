-- Which part of the era array, and of a write set, each page says.
use Rattle.std.specs.Prelude.{◌≡◌, ℕ, ◌+◌, ◌*◌, ◌<◌, Bool, List, slice_index}
use Rattle.era_base.specs.Flags.{has}
use Rattle.era_layout.specs.Pages.{entry_at, flag_at}

-- A page says the entries of its 1,024 blocks of the era array, and 0 past the last block.
abbrev pub IsArrayPageOf : List ℕ → ℕ → List ℕ → Type 0
IsArrayPageOf eras index page = (entry : ℕ) → entry < 1024 → entry_at page entry ≡ slice_index eras (1024 * index + entry)

-- A page says which of its 32,768 blocks are in a write set, and no bit past the last block is set.
abbrev pub IsBitsPageOf : List Bool → ℕ → List ℕ → Type 0
IsBitsPageOf flags index page = (bit : ℕ) → bit < 32768 → flag_at page bit ≡ has flags (32768 * index + bit)
