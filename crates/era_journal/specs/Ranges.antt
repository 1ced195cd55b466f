-- The range of the origin's blocks that a stripe has.
use Rattle.std.specs.Prelude.{◌≡◌, ℕ, ◌-◌, ◌*◌, min}
use Rattle.era_base.specs.Geometry.{stripe_blocks}
use Rattle.era_model.specs.declared.opening.Opening.{Opening}
use Rattle.era_model.specs.History.{blocks_at}
use Rattle.era_notes.specs.Parts.{Part}

-- How many blocks each stripe has in a session that opens so; the last ones may have fewer.
abbrev pub blocks_each : Opening → ℕ
blocks_each opening = stripe_blocks (blocks_at opening) opening.stripes

-- A part is the range of a stripe: it begins behind the ranges of the stripes before it, and has as many blocks as each, or what is left of the origin.
pub record IsRangeOf (opening : Opening) (stripe : ℕ) (part : Part) : Type 0 where
  pub first : part.first ≡ min (stripe * blocks_each opening) (blocks_at opening)
  pub blocks : part.blocks ≡ min (blocks_each opening) (blocks_at opening - part.first)
