-- The stripe of a block of a session, and sectors of the origin that are sectors of one block of it.
use Rattle.std.proofs.Common.{◌≡◌, ℕ, zero, suc, ◌+◌, ◌-◌, ◌*◌, ◌/◌, ◌%◌, ◌<◌, ◌≤◌, Bool, true, false, length, min, Option, Some, None, sym, ap, ap₂, ◌∙◌, subst, arith}
use Rattle.std.specs.Prelude.{if◌then◌else◌, unwrap_or}
use Rattle.std.proofs.Math.Nat.{div-lt_iff_lt-mul, div-mul-le_self, lt-div-mul-add, mul-div_cancel, mul-mod_left}
use Rattle.std.proofs.lemmas.Grind.{div_ceil_times}
use Rattle.std.proofs.lemmas.Option.{none-some}
use Rattle.era_base.specs.Geometry.{lies_in_one_block, place_at}
use Rattle.era_base.specs.declared.disk.Disk.{Ghosts}
use Rattle.era_base.specs.declared.geometry.Geometry.{Geometry}
use Rattle.era_notes.specs.Parts.{IsIn, IsPlace}
use Rattle.era_session.specs.Reads.{AreOfBlock}
use Rattle.era_session.specs.Sessions.{AreSharedOut, IsStripeOf, session_blocks}
use Rattle.era_session.specs.declared.session.Session.{Session}
use Rattle.era_stripe.specs.Stripes.{part_of}
use Rattle.era_stripe.specs.declared.stripe.Stripe.{Stripe}

some-each : (blocks stripes each block : ℕ) → blocks ≤ each * stripes → block < blocks → 0 < each
some-each blocks stripes zero block all below = absurd (omega (arith, all, below))
some-each blocks stripes (suc each) block all below = omega arith

-- each stripe of a session has some blocks, and the stripe of a block is one of those that there are
pub stripe-of-block : {D : Type 0} (session : Session D) (block : ℕ) → AreSharedOut session → block < session_blocks session
    → (0 < session.each) × (block / session.each < length session.stripes.items)
stripe-of-block session block shared below =
    let stripes = session.gate.plan.stripes in
    let all : session_blocks session ≤ session.each * stripes = rw (shared.each) ((div_ceil_times (session_blocks session) stripes shared.any).0) in
    let each : 0 < session.each = some-each (session_blocks session) stripes session.each block all below in
    let within : block < stripes * session.each = omega (arith, all, below) in
    (each, rw (shared.stripes) ((div-lt_iff_lt-mul each).1 within))

in-range : (each blocks start first count block : ℕ) → start ≤ block → block < start + each → block < blocks → first ≡ start → count ≡ min each (blocks - start) → (first ≤ block) × (block < first + count)
in-range each blocks start first count block from next below is size = (omega (arith, from, next, below, is, size), omega (arith, from, next, below, is, size))

-- a block is one of its stripe's
pub block-in-part : {D : Type 0} (disk : Ghosts D) (session : Session D) (stripe : Stripe D) (block : ℕ) → 0 < session.each → block < session_blocks session → IsStripeOf disk session (block / session.each) stripe
    → IsIn (part_of stripe) block
block-in-part disk session stripe block each below is =
    let inside = in-range session.each (session_blocks session) (block / session.each * session.each) stripe.first_block stripe.blocks block
    (div-mul-le_self block session.each) (lt-div-mul-add each) below is.first is.blocks in
    record { low = inside.0; high = inside.1 }

-- the block of sectors and the first of them within it, where they lie in one block
abbrev divided : ℕ → ℕ → Bool → Option (ℕ × ℕ)
divided sector size one = if one then Some (sector / size, sector % size) else None

-- sectors that lie in one block are some, and their block and the first of them are by division
pub place-divides : (sectors size sector count block first : ℕ) → place_at sectors size sector count ≡ Some (block, first)
    → (block ≡ sector / size) × (first ≡ sector % size) × (0 < count)
place-divides sectors size sector zero block first is = absurd (none-some (block, first) is)
place-divides sectors size sector (suc count) block first is = on (lies_in_one_block sectors size sector (suc count)) is
  where
    on : (one : Bool) → divided sector size one ≡ Some (block, first) → (block ≡ sector / size) × (first ≡ sector % size) × (0 < suc count)
    on true is = (
      ap (λ (o : Option (ℕ × ℕ)). (unwrap_or o (block, first)).0) (sym is),
      ap (λ (o : Option (ℕ × ℕ)). (unwrap_or o (block, first)).1) (sym is),
      omega arith,
    )
    on false is = absurd (none-some (block, first) is)

-- the bytes of sectors that lie in one block are whole sectors of it
pub place-holds : (geometry : Geometry) (sector count block first : ℕ) → place_at geometry.sectors geometry.block_sectors sector count ≡ Some (block, first)
    → block * geometry.block_sectors + first ≡ sector → first + count ≤ geometry.block_sectors → sector + count ≤ geometry.sectors → 0 < count
    → IsPlace geometry block first (count * 512)
place-holds geometry sector count block first is at inside within some = record {
  some = omega (arith, some);
  whole = mul-mod_left count 512;
  place = ap₂ (place_at geometry.sectors geometry.block_sectors) at (mul-div_cancel count (omega arith)) ∙ is;
  in_block = omega (arith, inside);
  within = subst (λ n. n * 512 + count * 512 ≤ geometry.sectors * 512) (sym at) (omega (arith, within));
}

-- sectors that lie in one block are sectors of it at its stripe
pub sectors-at-stripe : {D : Type 0} (disk : Ghosts D) (session : Session D) (stripe : Stripe D) (sector count block first : ℕ)
    → place_at session.geometry.sectors session.geometry.block_sectors sector count ≡ Some (block, first) → block * session.geometry.block_sectors + first ≡ sector
    → (first + count ≤ session.geometry.block_sectors) × (sector + count ≤ session.geometry.sectors) → AreSharedOut session → block < session_blocks session
    → IsStripeOf disk session (block / session.each) stripe → AreOfBlock stripe sector count
sectors-at-stripe disk session stripe sector count block first is at within shared below of =
    let size = session.geometry.block_sectors in
    let divided = place-divides session.geometry.sectors size sector count block first is in
    let each = (stripe-of-block session block shared below).0 in
    let inside = block-in-part disk session stripe block each below of in
    let holds = place-holds session.geometry sector count block first is at within.0 within.1 divided.2 in
    record {
      of_part = subst (λ (g : Geometry). IsIn (part_of stripe) (sector / g.block_sectors)) (sym of.geometry) (subst (IsIn (part_of stripe)) divided.0 inside);
      place = subst (λ (g : Geometry). IsPlace g (sector / g.block_sectors) (sector % g.block_sectors) (count * 512)) (sym of.geometry)
          (subst (λ b. IsPlace session.geometry b (sector % size) (count * 512)) divided.0
          (subst (λ f. IsPlace session.geometry block f (count * 512)) divided.1 holds));
    }
