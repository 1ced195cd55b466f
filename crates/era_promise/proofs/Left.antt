-- What calls in a row have left, by a history of them.
use Rattle.std.specs.Prelude.{◌≡◌, ℕ, true, List, Option, Some}
use Rattle.era_base.specs.declared.geometry.Geometry.{Geometry}
use Rattle.era_model.specs.declared.history.Happening.{Happening}
use Rattle.era_model.specs.declared.history.Images.{Images}
use Rattle.era_model.specs.Crashes.{MayCrash, geometry_now}
use Rattle.era_model.specs.History.{at_opening, is_open}
use Rattle.era_model.specs.Marks.{BlockMarks}

-- The images that are found after a crash: the origin's bytes, and the marks and the snapshot of the metadata disk.
abbrev pub found_images : List ℕ → BlockMarks → Option BlockMarks → Images
found_images origin m found = record { contents = record { bytes = Some origin }; marks = m; held = found }

-- A crash of the last session of a history may leave these images; its origin has the geometry, and its metadata disk so many blocks.
pub record MayBeFound (g : Geometry) (metadata_blocks : ℕ) (h : List Happening) (origin : List ℕ) (m : BlockMarks) (found : Option BlockMarks) : Type 0 where
  pub ongoing : is_open h ≡ true
  pub crash : MayCrash h (found_images origin m found)
  pub geometry : geometry_now h ≡ Some g
  pub total : at_opening 0 (λ opening. opening.total) h ≡ metadata_blocks
