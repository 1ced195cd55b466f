-- An origin that is split into parts.
use Rattle.std.proofs.Common.{◌≡◌, ℕ, zero, suc, ◌+◌, ◌-◌, ◌*◌, ◌<◌, ◌≤◌, inl, inr, min, refl, sym, ap, ◌∙◌, subst, arith}
use Rattle.std.specs.Int.{div_ceil}
use Rattle.std.proofs.Math.Nat.{mul-le-mul_right, mul_comm}
use Rattle.std.proofs.lemmas.Bool.{cases_lt}
use Rattle.std.proofs.lemmas.Grind.{div_ceil_times}
use Rattle.std.proofs.lemmas.Nat.{mul-le, mul-lt}
use Rattle.era_base.specs.declared.geometry.Geometry.{Geometry}
use Rattle.era_opening.specs.Splits.{CoverOrigin, IsSplit}
use Rattle.era_opening.specs.declared.splitting.Split.{Split}
use Rattle.era_session.specs.Openings.{origin_blocks}

-- so many parts are enough, and all before the last aren't
ceil-enough : (n b : ℕ) → 0 < b → n ≤ div_ceil n b * b
ceil-enough n b some = (div_ceil_times n b some).0

ceil-least : (n b k : ℕ) → 0 < b → n ≤ k * b → div_ceil n b ≤ k
ceil-least n b k some le = elim (cases_lt k (div_ceil n b)) [
  | inl more ↦
      let high : (k + 1) * b ≤ div_ceil n b * b = mul-le-mul_right b (omega (arith, more)) in
      let bound = (div_ceil_times n b some).1 in
      absurd (omega (arith, high, bound, le))
  | inr done ↦ done
]

pub ceil-below : (n b k : ℕ) → 0 < b → k < div_ceil n b → k * b < n
ceil-below n b k some low =
    let high : (k + 1) * b ≤ div_ceil n b * b = mul-le-mul_right b (omega (arith, low)) in
    let bound = (div_ceil_times n b some).1 in
    omega (arith, high, bound)

ceil-some : (n b : ℕ) → 0 < n → 0 < b → 0 < div_ceil n b
ceil-some n b any some = positive (div_ceil n b) refl
  where
    positive : (q : ℕ) → q ≡ div_ceil n b → 0 < q
    positive zero is = absurd (let le : n ≤ 0 * b = subst (λ (q : ℕ). n ≤ q * b) (sym is) (ceil-enough n b some) in omega (arith, le, any))
    positive (suc q) is = omega arith

-- a split into as few parts has as many blocks in each
ceil-same : (n s : ℕ) → 0 < n → 0 < s → div_ceil n (div_ceil n (div_ceil n s)) ≡ div_ceil n s
ceil-same n s any some =
    let each : ℕ = div_ceil n s in
    let has : 0 < each = ceil-some n s any some in
    let count : ℕ = div_ceil n each in
    let parts : 0 < count = ceil-some n each any has in
    let few : count ≤ s = ceil-least n each s has (subst (λ (m : ℕ). n ≤ m) (mul_comm each s) (ceil-enough n s some)) in
    let most : div_ceil n count ≤ each = ceil-least n count each parts (subst (λ (m : ℕ). n ≤ m) (mul_comm count each) (ceil-enough n each has)) in
    let enough : n ≤ div_ceil n count * count = ceil-enough n count parts in
    let wider : div_ceil n count * count ≤ div_ceil n count * s = mul-le (div_ceil n count) count (div_ceil n count) s (omega arith) few in
    let least : each ≤ div_ceil n count = ceil-least n s (div_ceil n count) some (omega (arith, enough, wider)) in
    omega (arith, most, least)

both-some : (p q : ℕ) → 0 < p → 0 < q → 0 < min p q
both-some p q one two = omega (arith, one, two)

times-some : (p q : ℕ) → 0 < p → 0 < q → 0 < p * q
times-some p q one two = mul-lt 0 0 p q one two

-- a part has some sectors
size-some : (sectors size each blocks before : ℕ) → 0 < size → 0 < each → before < blocks → before * size < sectors → 0 < min (min each (blocks - before) * size) (sectors - before * size)
size-some sectors size each blocks before some has low below =
    both-some (min each (blocks - before) * size) (sectors - before * size)
    (times-some (min each (blocks - before)) size (both-some each (blocks - before) has (omega (arith, low))) some) (omega (arith, below))

-- one that another follows has all its blocks, whole
size-whole : (sectors size each blocks before : ℕ) → before + each < blocks → (before + each) * size < sectors
    → before * size + min (min each (blocks - before) * size) (sectors - before * size) ≡ (before + each) * size
size-whole sectors size each blocks before low below =
    let all : min each (blocks - before) ≡ each = omega (arith, low) in
    ap (λ (m : ℕ). before * size + min (m * size) (sectors - before * size)) all ∙ omega (arith, below)

-- the last one ends where the origin does
size-last : (sectors size each blocks before : ℕ) → before < blocks → blocks ≤ before + each → sectors ≤ blocks * size → before * size < sectors
    → before * size + min (min each (blocks - before) * size) (sectors - before * size) ≡ sectors
size-last sectors size each blocks before low last all below =
    let rest : min each (blocks - before) ≡ blocks - before = omega (arith, last) in
    let parts : blocks ≡ before + (blocks - before) = omega (arith, low) in
    let sum : sectors ≤ (before + (blocks - before)) * size = subst (λ (n : ℕ). sectors ≤ n * size) parts all in
    ap (λ (m : ℕ). before * size + min (m * size) (sectors - before * size)) rest ∙ ends (before * size) ((blocks - before) * size) sectors (omega (arith, sum)) below
  where
    ends : (first many end : ℕ) → end ≤ first + many → first < end → first + min many (end - first) ≡ end
    ends first many end le low = omega (arith, le, low)

covers : (g : Geometry) (each count : ℕ) → 0 < g.block_sectors → 0 < each → count ≡ div_ceil (origin_blocks g) each → CoverOrigin g each count
covers g each count size has is = record {
  some = λ k low.
      let before = low-block k low in
      size-some g.sectors g.block_sectors each (origin_blocks g) (k * each) size has before (ceil-below g.sectors g.block_sectors (k * each) size before);
  joined = λ k low.
      let next : (k + 1) * each < origin_blocks g = low-block (k + 1) low in
      let here : k * each + each < origin_blocks g = omega (arith, next) in
      size-whole g.sectors g.block_sectors each (origin_blocks g) (k * each) here (ceil-below g.sectors g.block_sectors (k * each + each) size here)
      ∙ ap (λ (n : ℕ). n * g.block_sectors) (omega arith);
  ended = λ k last.
      let before = low-block k (omega (arith, last)) in
      let all : origin_blocks g ≤ count * each = rw is (ceil-enough (origin_blocks g) each has) in
      let whole : origin_blocks g ≤ (k + 1) * each = subst (λ (n : ℕ). origin_blocks g ≤ n * each) (sym last) all in
      size-last g.sectors g.block_sectors each (origin_blocks g) (k * each) before (omega (arith, whole)) (ceil-enough g.sectors g.block_sectors size) (ceil-below g.sectors g.block_sectors (k * each) size before);
}
  where
    low-block : (k : ℕ) → k < count → k * each < origin_blocks g
    low-block k low = ceil-below (origin_blocks g) each k has (subst (λ (n : ℕ). k < n) is low)

pub is-split : (g : Geometry) (stripes : ℕ) (split : Split) → 0 < g.block_sectors → 0 < origin_blocks g → 0 < stripes → stripes ≤ 16
    → split.each ≡ div_ceil (origin_blocks g) stripes → split.count ≡ div_ceil (origin_blocks g) split.each → IsSplit g stripes split
is-split g stripes split size any some few is count =
    let n : ℕ = origin_blocks g in
    let has : 0 < split.each = rw is (ceil-some n stripes any some) in
    let both : split.count ≡ div_ceil n (div_ceil n stripes) = count ∙ ap (div_ceil n) is in
    let same : div_ceil n split.count ≡ split.each = ap (div_ceil n) both ∙ ceil-same n stripes any some ∙ sym is in
    let all : n ≤ split.each * stripes = rw is (ceil-enough n stripes some) in
    let within : split.count ≤ stripes = rw count (ceil-least n split.each stripes has (subst (λ (m : ℕ). n ≤ m) (mul_comm split.each stripes) all)) in
    record {
      each = is;
      count = both;
      few = within;
      may = record {
        any = rw count (ceil-some n split.each any has);
        few = omega (arith, within, few);
        some = λ k low. subst (λ (e : ℕ). k * e < n) (sym same) (ceil-below n split.each k has (subst (λ (c : ℕ). k < c) count low));
      };
      same = same;
      covers = covers g split.each split.count size has count;
    }
