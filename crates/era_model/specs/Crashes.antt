-- What a crash or the end of a session may leave, and how the next session opens on it.
use Rattle.std.specs.Prelude.{◌≡◌, ℕ, ◌+◌, ◌<◌, ◌≤◌, List, [], length, Option, Some, None}
use Rattle.era_base.specs.declared.geometry.Geometry.{Geometry}
use Rattle.era_base.specs.declared.limits.TheConstants.{LAST_ERA, MOST_STRIPES}
use Rattle.era_model.specs.declared.history.Happening.{Happening}
use Rattle.era_model.specs.declared.history.Images.{Images}
use Rattle.era_model.specs.declared.opening.Opening.{Opening}
use Rattle.era_model.specs.Changed.{IsCrashContent}
use Rattle.era_model.specs.History.{at_opening, blocks_now, contents_of, known_bytes}
use Rattle.era_model.specs.Marks.{rolled}
use Rattle.era_model.specs.Recovered.{IsRecoveredFrom, IsDurableFrom}
use Rattle.era_model.specs.Writes.{block_bytes}

-- The geometry of the origin, none before the first session opened.
abbrev pub geometry_now : List Happening → Option Geometry
geometry_now h = at_opening None (λ opening. Some opening.geometry) h

-- The bytes of a block in the images that a crash of the session left.
abbrev pub image_of : List Happening → Images → ℕ → List ℕ
image_of h images block =
    block_bytes (at_opening 0 (λ opening. opening.geometry.block_sectors) h) (known_bytes images.contents.bytes) block

-- The images are of the whole origin, and what they have of each block is something that a crash may leave of it.
pub record AreOriginImages (h : List Happening) (images : Images) : Type 0 where
  pub size : length (known_bytes images.contents.bytes) ≡ length (at_opening [] contents_of h)
  pub blocks : (block : ℕ) → block < blocks_now h → IsCrashContent h block (image_of h images block)

-- A crash may leave the images: those of the origin, and marks and a snapshot that may be recovered.
pub record MayCrash (h : List Happening) (images : Images) : Type 0 where
  pub origin : AreOriginImages h images
  pub metadata : IsRecoveredFrom h images.marks images.held

-- The end of a session may leave the images: those of the origin, and marks and a snapshot that are durable.
pub record MayEnd (h : List Happening) (images : Images) : Type 0 where
  pub origin : AreOriginImages h images
  pub metadata : IsDurableFrom h images.marks images.held

-- A session may open on what was left of the one before: its marks are the recovered ones after one era switch, so its era is one above theirs and theirs isn't the last one; its snapshot and its contents are what was left; its geometry and its metadata blocks are those of before; and it has from 1 to 16 stripes of its own.
pub record IsReopening (before : List Happening) (images : Images) (opening : Opening) : Type 0 where
  pub below_last : images.marks.era < LAST_ERA
  pub era : opening.era ≡ images.marks.era + 1
  pub marks : opening.marks ≡ rolled images.marks
  pub held : opening.held ≡ images.held
  pub geometry : geometry_now before ≡ Some opening.geometry
  pub total : opening.total ≡ at_opening 0 (λ o. o.total) before
  pub contents : opening.contents ≡ images.contents
  pub some_stripe : 1 ≤ opening.stripes
  pub few_stripes : opening.stripes ≤ MOST_STRIPES
