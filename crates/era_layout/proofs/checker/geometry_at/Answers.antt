use Rattle.std.proofs.Common.{◌≡◌, ℕ, ◌<◌, refl, arith, Err}
use Rattle.std.specs.Prelude.{IsErrOf}
use Rattle.era_base.specs.declared.geometry.Geometry.{Geometry}
use Rattle.era_base.specs.Geometry.{IsBlockSize, blocks_of}
use Rattle.era_base.specs.declared.geometry.GeomError.{GeomError}
use Rattle.era_base.specs.declared.geometry.GeomError.TheVariants.{BadBlockSize, NoBlocks, TooManyBlocks}
use Rattle.era_layout.specs.Root.{IsGeometry}
use Rattle.era_layout.specs.Damage.{Passes}
use Rattle.era_layout.proofs.checker.geometry_at.Goals as goal

-- numbers that were refused are no geometry
refused : (error : GeomError) (sectors block_sectors : ℕ) → (IsErrOf {T = Geometry} (Err error) BadBlockSize → ¬ IsBlockSize block_sectors) → (IsErrOf {T = Geometry} (Err error) NoBlocks → IsBlockSize block_sectors × (sectors ≡ 0))
    → ((count : ℕ) → IsErrOf {T = Geometry} (Err error) (TooManyBlocks count) → IsBlockSize block_sectors × (count ≡ blocks_of sectors block_sectors) × (65536 < count))
    → IsGeometry sectors block_sectors → ⊥
refused BadBlockSize sectors block_sectors size none many geometry = size refl geometry.block_size
refused NoBlocks sectors block_sectors size none many geometry =
    let zero_sectors : sectors ≡ 0 = (none refl).1 in omega (arith, geometry.some)
refused (TooManyBlocks count) sectors block_sectors size none many geometry =
    let too_many = many count refl in omega (arith, too_many.1, too_many.2, geometry.limited)

pub returns-in-Err-clause-none : goal.returns-in-Err-clause-none
unfolding Passes
returns-in-Err-clause-none c = λ geometry.
    refused c.in-Err.field-0 c.read_u64.result c.from-block_sectors.result c.in-Err.ensures.block_size.0 c.in-Err.ensures.none.0 (λ count. (c.in-Err.ensures.many count).0)
    (rw (c.from-block_sectors.ensures, c.read_u32.ensures, c.read_u64.ensures) geometry)
