-- Words of 64 bits with a bit for each block.
use Rattle.std.specs.Prelude.{◌≡◌, ℕ, ◌≤◌, false, List, length}
use Rattle.std.specs.Int.{div_ceil}
use Rattle.era_base.specs.Bits.{bit_of_words}

-- Words hold a bit for each of so many blocks, and there are no more words, and no more set bits, than those.
pub record ArePacked (blocks : ℕ) (words : List ℕ) : Type 0 where
  pub size : length words ≡ div_ceil blocks 64
  pub past : (block : ℕ) → blocks ≤ block → bit_of_words words block ≡ false
