-- Entries of the era array.
use Rattle.std.specs.Prelude.{ℕ, ◌-◌, ◌*◌, ◌/◌, ◌==◌, ◌&&◌, max, nat_le, Bool, List, slice_index, if◌then◌else◌}
use Rattle.era_base.specs.Bits.{bit_of_words}

-- A block's entry once a page of 1,024 blocks was transcribed: the era where the block lies in the page and its bit in the words is set, else what it was.
abbrev pub transcribed_entry : List ℕ → ℕ → List ℕ → ℕ → ℕ → ℕ
transcribed_entry entries page words era block =
    if block / 1024 == page && bit_of_words words (block - 1024 * page) then era else slice_index entries block

-- Whether a block's entry is an era or a later one. Era 0 means the same as 1, so that a block without an entry never is.
abbrev pub entered_since : List ℕ → ℕ → ℕ → Bool
entered_since entries era block = nat_le (max era 1) (slice_index entries block)
