-- Blocks of an origin: how many there are, which sectors each covers, and how much metadata they need.
use Rattle.std.specs.Prelude.{◌≡◌, ℕ, Bool, ◌+◌, ◌-◌, ◌*◌, ◌/◌, ◌%◌, ◌≤◌, ◌==◌, ◌&&◌, min, nat_lt, nat_le, Option, Some, None, if◌then◌else◌}
use Rattle.std.specs.Int.{div_ceil}

-- A block size is a multiple of 8 sectors, from 8 to 128.
pub record IsBlockSize (sectors : ℕ) : Type 0 where
  pub multiple : sectors % 8 ≡ 0
  pub least : 8 ≤ sectors
  pub greatest : sectors ≤ 128

-- How many blocks an origin of so many sectors has, of which the last one may be short.
abbrev pub blocks_of : ℕ → ℕ → ℕ
blocks_of sectors block_sectors = div_ceil sectors block_sectors

-- How many pages of 4,096 bytes the era array of so many blocks takes, at four bytes a block.
abbrev pub array_pages_of : ℕ → ℕ
array_pages_of blocks = div_ceil blocks 1024

-- How many pages of 4,096 bytes a write set of so many blocks takes, at one bit a block.
abbrev pub bit_pages_of : ℕ → ℕ
bit_pages_of blocks = div_ceil blocks 32768

-- How many pages one root reaches: the era array, the current write set and sixteen archived ones.
abbrev pub root_pages_of : ℕ → ℕ
root_pages_of blocks = array_pages_of blocks + 17 * bit_pages_of blocks

-- How many metadata blocks of 4,096 bytes an image needs: two slots, the snapshot's block and the pages of three roots.
abbrev pub need_of : ℕ → ℕ
need_of blocks = 3 + 3 * root_pages_of blocks

-- The first sector of a block, and how many sectors it has.
abbrev pub span_of : ℕ → ℕ → ℕ → ℕ × ℕ
span_of sectors block_sectors block =
    (block * block_sectors, min block_sectors (sectors - block * block_sectors))

-- Sectors lie in one block where there are some, none of them is past the end, and the first and the last are of one block.
abbrev pub lies_in_one_block : ℕ → ℕ → ℕ → ℕ → Bool
lies_in_one_block sectors block_sectors sector count =
    nat_lt 0 count && nat_le (sector + count) sectors && sector / block_sectors == (sector + count - 1) / block_sectors

-- The block in which the sectors lie, and the first sector within it, or none where they lie in no one block.
abbrev pub place_at : ℕ → ℕ → ℕ → ℕ → Option (ℕ × ℕ)
place_at sectors block_sectors sector count =
    if lies_in_one_block sectors block_sectors sector count
    then Some (sector / block_sectors, sector % block_sectors)
    else None

-- How many blocks each of so many stripes has; the last one may have fewer.
abbrev pub stripe_blocks : ℕ → ℕ → ℕ
stripe_blocks blocks stripes = div_ceil blocks stripes

-- The stripe of a block.
abbrev pub stripe_of : ℕ → ℕ → ℕ → ℕ
stripe_of blocks stripes block = block / stripe_blocks blocks stripes
