-- With which number a call ends, as its words, its numbers and the origin's size say.
use Rattle.std.specs.Prelude.{◌≡◌, ◌⊎◌, ℕ, ◌<◌, List, Option, Some}
use Rattle.era_base.specs.declared.geometry.Geometry.{Geometry}
use Rattle.era_base.specs.declared.geometry.GeomError.{GeomError}
use Rattle.era_line.specs.declared.table_line.TableLine.{TableLine}
use Rattle.era_tools.specs.Needs.{AreGeometry, IsNoGeometry}
use Rattle.era_top.specs.Tools.{EndsWith}
use Rattle.era_top.specs.Words.{GiveNumbers, IsNeed, IsNotYet, IsServe}
use Rattle.era_words.specs.Words.{IsNoJob}

-- A call ends with the number that its words ask for: 2 where they are no command, or one that isn't served yet; 6 where their numbers are no geometry; 6 where the origin is told to be smaller than they say, but for a fault of the bay; 0 where they ask for the need of a geometry.
pub record EndsExactly (words : List (List ℕ)) (sizes : List ℕ → Option ℕ) (number : ℕ) : Type 0 where
  pub no_command : IsNoJob words → EndsWith number 2
  pub not_yet : IsNotYet words → EndsWith number 2
  pub no_geometry : (error : GeomError) (sectors size : ℕ) → GiveNumbers words sectors size → IsNoGeometry error sectors size → EndsWith number 6
  pub too_small : (line : TableLine) (have : ℕ) → IsServe words line → AreGeometry line.length line.block_sectors → sizes line.origin ≡ Some have → have < line.length
      → EndsWith number 6 ⊎ (number ≡ 4)
  pub need : (geometry : Geometry) → IsNeed words geometry.sectors geometry.block_sectors → EndsWith number 0
