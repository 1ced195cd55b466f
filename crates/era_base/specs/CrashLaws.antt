-- The crash images of several moments, and what calls have left as it was.
use Rattle.std.specs.Prelude.{⊤, ℕ, ◌≡◌, ◌+◌, ◌*◌, ◌≤◌, false, List, [], ◌∷◌, length, slice_index}
use Rattle.era_base.specs.CrashModel.{State, History, state_at, is_pending, IsCrashImage}

-- An image that a crash may leave at a moment, from one moment to another.
pub record IsImageBetween (history : History) (first last : ℕ) (image : List ℕ) : Type 0 where
  pub moment : ℕ
  pub begun : first ≤ moment
  pub ended : moment ≤ last
  pub left : IsCrashImage (state_at history moment) image

-- The bytes from one offset up to another.
pub record ByteRange : Type 0 where
  pub from : ℕ
  pub to : ℕ

-- The range of the bytes that a write from a sector on is of.
abbrev pub range_of : ℕ → List ℕ → ByteRange
range_of first bytes = record { from = first * 512; to = first * 512 + length bytes }

-- An offset lies outside all these ranges.
abbrev pub IsOutside : List ByteRange → ℕ → Type 0
IsOutside [] offset = ⊤
IsOutside (range ∷ ranges) offset = (range.from ≤ offset → range.to ≤ offset) × IsOutside ranges offset

-- Outside these ranges nothing has changed, and no sector has become pending.
pub record SameOutside (ranges : List ByteRange) (before after : State) : Type 0 where
  pub bytes : length after.seen ≡ length before.seen
  pub flags : length after.pending ≡ length before.pending
  pub seen : (offset : ℕ) → IsOutside ranges offset → slice_index after.seen offset ≡ slice_index before.seen offset
  pub clean : (offset : ℕ) → IsOutside ranges offset → is_pending before offset ≡ false → is_pending after offset ≡ false
