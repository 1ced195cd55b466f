-- Numbers in bytes, the lowest byte first.
use Rattle.std.specs.Prelude.{ℕ, zero, suc, ◌+◌, ◌-◌, ◌<◌, slice_index, List, [], ◌∷◌, ◌++◌, length, replicate}
use Rattle.std.specs.List.{flat_map}
use Rattle.std.specs.Int.{w32, w64, to_le_bytes, from_le_bytes}
use Rattle.era_base.specs.Bytes.{part}

-- Each element is a byte.
abbrev pub AreBytes : List ℕ → Type 0
AreBytes bytes = (index : ℕ) → slice_index bytes index < 256

-- A number in four bytes, the lowest byte first.
unfoldable pub u32_bytes : ℕ → List ℕ
u32_bytes number = to_le_bytes w32 number

-- A number in eight bytes, the lowest byte first.
unfoldable pub u64_bytes : ℕ → List ℕ
u64_bytes number = to_le_bytes w64 number

-- Numbers in four bytes each, one behind the other.
abbrev pub u32s_bytes : List ℕ → List ℕ
u32s_bytes numbers = flat_map u32_bytes numbers

-- Numbers in eight bytes each, one behind the other.
abbrev pub u64s_bytes : List ℕ → List ℕ
u64s_bytes numbers = flat_map u64_bytes numbers

-- The number in the four bytes at an offset.
unfoldable pub u32_at : List ℕ → ℕ → ℕ
u32_at bytes offset = from_le_bytes w32 (part offset 4 bytes)

-- The number in the eight bytes at an offset.
unfoldable pub u64_at : List ℕ → ℕ → ℕ
u64_at bytes offset = from_le_bytes w64 (part offset 8 bytes)

-- So many numbers of four bytes each, from an offset on.
abbrev pub u32s_at : List ℕ → ℕ → ℕ → List ℕ
u32s_at bytes offset zero = []
u32s_at bytes offset (suc count) = u32_at bytes offset ∷ u32s_at bytes (offset + 4) count

-- The bytes, and zeros behind them up to a size.
abbrev pub padded : ℕ → List ℕ → List ℕ
padded size bytes = bytes ++ replicate (size - length bytes) 0
