-- Ranges of stripes: their blocks are the stripe's, and each block of the origin lies in the range of its stripe.
use Rattle.std.proofs.Common.{◌≡◌, ℕ, zero, suc, ◌+◌, ◌-◌, ◌*◌, ◌/◌, ◌<◌, ◌≤◌, arith, refl}
use Rattle.std.specs.Prelude.{min}
use Rattle.std.proofs.Math.Nat.{div-eq_of_lt-le, div-lt_iff_lt-mul, div-mul-le_self, lt-div-mul-add}
use Rattle.std.proofs.lemmas.Grind.{div_ceil_times}
use Rattle.era_model.specs.declared.opening.Opening.{Opening}
use Rattle.era_model.specs.History.{blocks_at}
use Rattle.era_notes.specs.Parts.{IsIn, Part}
use Rattle.era_promise.specs.Owners.{stripe_at}
use Rattle.era_journal.specs.Ranges.{IsRangeOf, blocks_each}

-- a block of a range
in-range : (each blocks stripe start first count block : ℕ) → stripe * each ≡ start → first ≡ min start blocks → count ≡ min each (blocks - first) → first ≤ block → block < first + count → block / each ≡ stripe
in-range each blocks stripe start first count block begins is size low high =
    let from : stripe * each ≤ block = omega (arith, begins, is, size, low, high) in
    let below : block < stripe * each + each = omega (arith, begins, is, size, low, high) in
    let next : block < (stripe + 1) * each = omega (arith, below) in
    div-eq_of_lt-le each from next

pub range-stripe : (opening : Opening) (stripe : ℕ) (part : Part) (block : ℕ) → IsRangeOf opening stripe part → IsIn part block → stripe_at opening block ≡ stripe
range-stripe opening stripe part block range inside =
    in-range (blocks_each opening) (blocks_at opening) stripe (stripe * blocks_each opening) part.first part.blocks block refl range.first range.blocks inside.low inside.high

-- the range of a block's stripe
some-each : (blocks stripes each block : ℕ) → 1 ≤ stripes → blocks ≤ each * stripes → block < blocks → 0 < each
some-each blocks stripes zero block some all below = absurd (omega (arith, all, below))
some-each blocks stripes (suc each) block some all below = omega arith

covered : (each blocks start first count block : ℕ) → start ≤ block → block < start + each → block < blocks → first ≡ min start blocks → count ≡ min each (blocks - first) → (first ≤ block) × (block < first + count)
covered each blocks start first count block from next below is size = (omega (arith, from, next, below, is, size), omega (arith, from, next, below, is, size))

pub stripe-low : (opening : Opening) (block : ℕ) → 1 ≤ opening.stripes → block < blocks_at opening → (0 < blocks_each opening) × (stripe_at opening block < opening.stripes)
stripe-low opening block some below =
    let all : blocks_at opening ≤ blocks_each opening * opening.stripes = (div_ceil_times (blocks_at opening) opening.stripes (omega (arith, some))).0 in
    let each : 0 < blocks_each opening = some-each (blocks_at opening) opening.stripes (blocks_each opening) block some all below in
    let within : block < opening.stripes * blocks_each opening = omega (arith, all, below) in
    (each, (div-lt_iff_lt-mul each).1 within)

pub range-covers : (opening : Opening) (part : Part) (block : ℕ) → 1 ≤ opening.stripes → block < blocks_at opening → IsRangeOf opening (stripe_at opening block) part → IsIn part block
range-covers opening part block some below range =
    let each = (stripe-low opening block some below).0 in
    let inside = covered (blocks_each opening) (blocks_at opening) (block / blocks_each opening * blocks_each opening) part.first part.blocks block
    (div-mul-le_self block (blocks_each opening)) (lt-div-mul-add each) below range.first range.blocks in
    record { low = inside.0; high = inside.1 }
