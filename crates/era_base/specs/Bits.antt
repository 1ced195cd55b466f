-- Bits of a number, and of a list of words of 64 bits.
use Rattle.std.specs.Prelude.{ℕ, Bool, ◌/◌, ◌%◌, ◌^◌, ◌==◌, List, slice_index}

-- A bit of a number, counted from the lowest.
unfoldable pub bit_of : ℕ → ℕ → Bool
bit_of number index = number / 2 ^ index % 2 == 1

-- The bit at an index of a list of words of 64 bits, each from its lowest bit on; past the end it is clear.
abbrev pub bit_of_words : List ℕ → ℕ → Bool
bit_of_words words index = bit_of (slice_index words (index / 64)) (index % 64)
