-- Pages of 4,096 bytes: entries of the era array, and bits of a write set. The offsets stand in docs/FORMAT.md, "A page".
use Rattle.std.specs.Prelude.{◌≡◌, ℕ, Bool, true, false, ◌*◌, ◌/◌, ◌%◌, ◌<◌, ◌≤◌, List, slice_index}
use Rattle.era_base.specs.Bits.{bit_of}
use Rattle.era_layout.specs.Numbers.{u32_at, u32s_bytes, u64s_bytes, padded}

-- The page of the era array with these entries, and zeros behind them.
abbrev pub array_page : List ℕ → List ℕ
array_page eras = padded 4096 (u32s_bytes eras)

-- The entry at an index of a page of the era array.
abbrev pub entry_at : List ℕ → ℕ → ℕ
entry_at page index = u32_at page (4 * index)

-- An entry from an index on is greater than a limit.
abbrev pub HasEntryAbove : List ℕ → ℕ → ℕ → Type 0
HasEntryAbove page first limit = (index : ℕ) × (first ≤ index) × (index < 1024) × (limit < entry_at page index)

-- No entry from an index on is greater than a limit.
abbrev pub EntriesUpTo : List ℕ → ℕ → ℕ → Type 0
EntriesUpTo page first limit = (index : ℕ) → first ≤ index → index < 1024 → entry_at page index ≤ limit

-- A page of the era array for so many entries: those behind them are 0, and none is greater than the limit.
pub record IsArrayPage (page : List ℕ) (entries limit : ℕ) : Type 0 where
  pub end : EntriesUpTo page entries 0
  pub limited : EntriesUpTo page 0 limit

-- The page of a write set with the bits of these words, and clear bits behind them.
abbrev pub bits_page : List ℕ → List ℕ
bits_page words = padded 4096 (u64s_bytes words)

-- The bit at an index of a page of a write set: the bit of its byte, counted from the lowest.
abbrev pub flag_at : List ℕ → ℕ → Bool
flag_at page index = bit_of (slice_index page (index / 8)) (index % 8)

-- A bit from an index on is set.
abbrev pub HasFlagFrom : List ℕ → ℕ → Type 0
HasFlagFrom page first = (index : ℕ) × (first ≤ index) × (index < 32768) × (flag_at page index ≡ true)

-- No bit from an index on is set.
abbrev pub FlagsEndAt : List ℕ → ℕ → Type 0
FlagsEndAt page first = (index : ℕ) → first ≤ index → index < 32768 → flag_at page index ≡ false
