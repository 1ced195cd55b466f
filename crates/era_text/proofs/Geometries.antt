-- Which numbers of sectors are a geometry.
use Rattle.std.proofs.Common.{◌≡◌, ℕ, ◌<◌, ◌≤◌, ◌%◌, ◌==◌, ◌&&◌, refl, arith}
use Rattle.std.specs.Prelude.{Bool, true, false, nat_lt, nat_le}
use Rattle.std.proofs.lemmas.Bool.{eqb-true, leb-true, ltb-true}
use Rattle.era_base.specs.Geometry.{IsBlockSize, blocks_of}
use Rattle.era_base.specs.declared.limits.TheConstants.{MOST_BLOCKS}
use Rattle.era_base.specs.declared.geometry.GeomError.{GeomError}
use Rattle.era_base.specs.declared.geometry.GeomError.TheVariants.{BadBlockSize, NoBlocks, TooManyBlocks}
use Rattle.era_text.specs.FirstLine.{is_geometry}

record AllFive (a b c d e : Bool) : Type 0 where
  one : a ≡ true
  two : b ≡ true
  three : c ≡ true
  four : d ≡ true
  five : e ≡ true

all-five : (a b c d e : Bool) → (a && b && c && d && e) ≡ true → AllFive a b c d e
all-five true true true true true is = record { one = refl; two = refl; three = refl; four = refl; five = refl }
all-five true true true true false is = cc
all-five true true true false e is = cc
all-five true true false d e is = cc
all-five true false c d e is = cc
all-five false b c d e is = cc

no-geometry : (fault : Bool) → (fault ≡ true → ⊥) → fault ≡ false
no-geometry true not = absurd (not refl)
no-geometry false not = refl

-- numbers that are refused are no geometry
pub not-geometry : (sectors size : ℕ) (error : GeomError) → (error ≡ BadBlockSize → IsBlockSize size → ⊥) → (error ≡ NoBlocks → sectors ≡ 0)
    → ((count : ℕ) → error ≡ TooManyBlocks count → MOST_BLOCKS < blocks_of sectors size) → is_geometry sectors size ≡ false
not-geometry sectors size error bad none many = no-geometry (is_geometry sectors size) (λ is.
    let all = all-five (size % 8 == 0) (nat_le 8 size) (nat_le size 128) (nat_lt 0 sectors) (nat_le (blocks_of sectors size) MOST_BLOCKS) is in
    refuted error bad none many
    (record { multiple = eqb-true (size % 8) 0 all.one; least = leb-true 8 size all.two; greatest = leb-true size 128 all.three })
    (ltb-true 0 sectors all.four) (leb-true (blocks_of sectors size) MOST_BLOCKS all.five))
  where
    refuted : (error : GeomError) → (error ≡ BadBlockSize → IsBlockSize size → ⊥) → (error ≡ NoBlocks → sectors ≡ 0)
        → ((count : ℕ) → error ≡ TooManyBlocks count → MOST_BLOCKS < blocks_of sectors size)
        → IsBlockSize size → 0 < sectors → blocks_of sectors size ≤ MOST_BLOCKS → ⊥
    refuted BadBlockSize bad none many block some few = bad refl block
    refuted NoBlocks bad none many block some few = let zero = none refl in omega (arith, zero, some)
    refuted (TooManyBlocks count) bad none many block some few = let lt = many count refl in omega (arith, lt, few)
