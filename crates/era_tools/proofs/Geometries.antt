-- What a length and a block size are, of which a geometry was made or refused.
use Rattle.std.proofs.Common.{◌≡◌, ◌↔◌, ◌<◌, ℕ, ◌∙◌, ap, subst}
use Rattle.std.specs.Prelude.{Result, Err, IsErrOf}
use Rattle.era_base.specs.declared.geometry.Geometry.{Geometry}
use Rattle.era_base.specs.declared.geometry.GeomError.{GeomError}
use Rattle.era_base.specs.declared.geometry.GeomError.TheVariants.{BadBlockSize, NoBlocks, TooManyBlocks}
use Rattle.era_base.specs.Geometry.{IsBlockSize, blocks_of, need_of}
use Rattle.era_tools.specs.Needs.{AreGeometry, IsNoGeometry}

pub are-geometry : (g : Geometry) (sectors size : ℕ) → g.sectors ≡ sectors → g.block_sectors ≡ size → AreGeometry sectors size
are-geometry g sectors size length block =
    subst (λ n. AreGeometry n size) length (subst (λ n. AreGeometry g.sectors n) block
    (record { block_size = g.block_size; some = g.some; limited = g.limited }))

pub need-is : (g : Geometry) (sectors size count : ℕ) → g.sectors ≡ sectors → g.block_sectors ≡ size
    → count ≡ need_of (blocks_of g.sectors g.block_sectors) → count ≡ need_of (blocks_of sectors size)
need-is g sectors size count length block is =
    is ∙ ap (λ n. need_of (blocks_of n g.block_sectors)) length ∙ ap (λ n. need_of (blocks_of sectors n)) block

-- why numbers are no geometry
pub is-no-geometry : (result : Result Geometry GeomError) (error : GeomError) (sectors size : ℕ) → result ≡ Err error
    → (IsErrOf result BadBlockSize ↔ ¬ IsBlockSize size)
    → (IsErrOf result NoBlocks ↔ (IsBlockSize size × (sectors ≡ 0)))
    → ((count : ℕ) → IsErrOf result (TooManyBlocks count) ↔ (IsBlockSize size × (count ≡ blocks_of sectors size) × (65536 < count)))
    → IsNoGeometry error sectors size
is-no-geometry result BadBlockSize sectors size is bad none many = bad.0 is
is-no-geometry result NoBlocks sectors size is bad none many = none.0 is
is-no-geometry result (TooManyBlocks count) sectors size is bad none many = (many count).0 is
