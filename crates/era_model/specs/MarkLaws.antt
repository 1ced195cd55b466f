-- What an era switch and a mark do to marks: they stay valid, and the last marked eras change by the mark alone.
use Rattle.std.specs.Prelude.{◌≡◌, ℕ, ◌≤◌, ◌==◌, true, if◌then◌else◌}
use Rattle.era_base.specs.Flags.{has}
use Rattle.era_model.specs.Marks.{BlockMarks, marks_last_era, rolled, with_block}
use Rattle.era_model.specs.Validity.{AreValidMarks}

-- An era switch keeps the marks valid, and each block's last marked era.
pub record SwitchKeepsMarks (m : BlockMarks) : Type 0 where
  pub valid : AreValidMarks (rolled m)
  pub lasts : (block : ℕ) → marks_last_era (rolled m) block ≡ marks_last_era m block

-- A mark keeps the marks valid. The present era is the block's last marked era then, and each other block keeps its own.
pub record MarkGivesEra (m : BlockMarks) (block : ℕ) : Type 0 where
  pub valid : AreValidMarks (with_block m block)
  pub lasts : (other : ℕ) → marks_last_era (with_block m block) other ≡ (if block == other then m.era else marks_last_era m other)

-- The last marked era of a block that the current set has is the present era, and no block's is above it.
pub record LastsAreBounded (m : BlockMarks) : Type 0 where
  pub current : (block : ℕ) → has m.current block ≡ true → marks_last_era m block ≡ m.era
  pub bounded : (block : ℕ) → marks_last_era m block ≤ m.era
