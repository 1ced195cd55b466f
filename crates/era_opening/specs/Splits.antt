-- How an origin is split into parts, one for each stripe.
use Rattle.std.specs.Prelude.{◌≡◌, ℕ, ◌+◌, ◌*◌, ◌<◌, ◌≤◌, List}
use Rattle.std.specs.Int.{div_ceil}
use Rattle.era_base.specs.Disk.{Place}
use Rattle.era_base.specs.declared.geometry.Geometry.{Geometry}
use Rattle.era_notes.specs.Parts.{part_sectors}
use Rattle.era_opening.specs.declared.splitting.Split.{Split}
use Rattle.era_session.specs.Openings.{MaySplit, blocks_at_part, origin_blocks, part_blocks}

-- The first sector of a part on the origin.
abbrev pub part_first : Geometry → ℕ → ℕ → ℕ
part_first geometry each k = k * each * geometry.block_sectors

-- How many sectors a part has, where each but the last has so many blocks. The origin's last block may be short.
abbrev pub part_size : Geometry → ℕ → ℕ → ℕ
part_size geometry each k = part_sectors geometry (k * each) (blocks_at_part geometry each k)

-- Where a part lies.
abbrev pub part_place : List ℕ → Geometry → ℕ → ℕ → Place
part_place origin geometry each k = record { device = origin; first = part_first geometry each k }

-- The parts have the whole origin: each next one begins where the one before it ends, the last ends where the origin does, and each has some sectors.
pub record CoverOrigin (geometry : Geometry) (each count : ℕ) : Type 0 where
  pub some : (k : ℕ) → k < count → 0 < part_size geometry each k
  pub joined : (k : ℕ) → k + 1 < count → part_first geometry each k + part_size geometry each k ≡ part_first geometry each (k + 1)
  pub ended : (k : ℕ) → k + 1 ≡ count → part_first geometry each k + part_size geometry each k ≡ geometry.sectors

-- A split is that of an origin into at most so many parts: a session may be prepared over so many, of so many blocks each, and they have the whole origin.
pub record IsSplit (geometry : Geometry) (stripes : ℕ) (split : Split) : Type 0 where
  pub each : split.each ≡ part_blocks geometry stripes
  pub count : split.count ≡ div_ceil (origin_blocks geometry) (part_blocks geometry stripes)
  pub few : split.count ≤ stripes
  pub may : MaySplit geometry split.count
  pub same : part_blocks geometry split.count ≡ split.each
  pub covers : CoverOrigin geometry split.each split.count
