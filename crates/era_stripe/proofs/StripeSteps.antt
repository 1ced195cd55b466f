-- Stripes from step to step: what stays, what fits together, and what was drawn.
use Rattle.std.proofs.Common.{◌≡◌, ℕ, ◌+◌, ◌-◌, ◌*◌, ◌/◌, ◌%◌, ◌≤◌, true, Option, Some, None, arith, sym, ap, ◌∙◌, subst}
use Rattle.era_base.specs.Calls.{SameDisk}
use Rattle.era_base.specs.CrashModel.{LiesOn}
use Rattle.era_base.specs.declared.disk.Disk.{Ghosts}
use Rattle.era_base.specs.declared.geometry.Geometry.{Geometry}
use Rattle.era_base.specs.declared.ids.CmdId.{CmdId}
use Rattle.std.proofs.lemmas.Nat.{div-add-mod'}
use Rattle.era_gate.specs.Calls.{GateToken, PassToken, StripeToken, draws}
use Rattle.era_gate.specs.declared.parts.StripePart.{StripePart}
use Rattle.era_gate.specs.StateAfter.{flight_after}
use Rattle.std.specs.Prelude.{Ok, Err}
use Rattle.era_model.specs.declared.event.Event.{Event}
use Rattle.era_notes.specs.Parts.{Part, IsIn, IsPlace, sector_in, part_sectors}
use Rattle.era_notes.proofs.Offsets.{blocks-apart}
use Rattle.era_stripe.specs.declared.cut_write.CutWrite.{CutWrite}
use Rattle.era_stripe.specs.declared.stripe.Stripe.{Stripe}
use Rattle.era_notes.specs.declared.buffers.Buffers.{Buffers}
use Rattle.era_stripe.specs.Calls.{MayCall, SameRest, SameStripe}
use Rattle.era_stripe.specs.Stripes.{StripeFits, CutFits, IsCutWrite, part_of}
use Rattle.era_stripe.specs.Results.{HadNone, Resolved, SameStay, SettleDid, Unresolved}

-- a relation of disks, over equal ones
pub over-equal : {D : Type 0} (Relates : D → D → Type 0) (old one two new : D) → one ≡ old → new ≡ two → Relates one two → Relates old new
over-equal Relates old one two new before after holds = subst (Relates old) (sym after) (subst (λ d. Relates d two) before holds)

-- whole sectors of a block lie on the part's disk
pub place-lies : {D : Type 0} (disk : Ghosts D) (stripe : Stripe D) (block first count : ℕ) → StripeFits disk stripe → IsIn (part_of stripe) block → IsPlace stripe.geometry block first count
    → LiesOn (disk.sectors stripe.disk) (sector_in (part_of stripe) block first) count
place-lies disk stripe block first count fits is place =
    let size : ℕ = stripe.geometry.block_sectors in
    let before : ℕ = block - stripe.first_block in
    let apart = blocks-apart before stripe.blocks size (omega (arith, is.low, is.high)) in
    let split : (before + stripe.first_block) * size ≡ before * size + stripe.first_block * size = omega arith in
    let whole : before + stripe.first_block ≡ block = omega (arith, is.low) in
    let at : block * size ≡ before * size + stripe.first_block * size = ap (λ n. n * size) (sym whole) ∙ split in
    record {
      some = place.some;
      whole = place.whole;
      within = rw fits.size (omega (arith, apart, at, place.in_block, place.within));
    }

-- a draw, device calls and a draw keep what a stripe is
pub same-drawn : {D : Type 0} (disk : Ghosts D) (old one new : Stripe D) (room : Option Buffers) (later : D) → SameRest (record old { room = room }) one → SameDisk disk one.disk later → SameRest (record one { disk = later }) new
    → new.seat.table ≡ old.seat.table → SameStripe disk old new
same-drawn disk old one new room later first calls second table = record {
  index = second.index ∙ first.index;
  geometry = second.geometry ∙ first.geometry;
  first_block = second.first_block ∙ first.first_block;
  blocks = second.blocks ∙ first.blocks;
  place = ap disk.place second.disk ∙ calls.place ∙ ap disk.place first.disk;
  sectors = ap disk.sectors second.disk ∙ calls.size ∙ ap disk.sectors first.disk;
  began = second.began ∙ first.began;
  table = table;
}

-- another cut write changes none of it
pub same-cut : {D : Type 0} (disk : Ghosts D) (old new : Stripe D) (cut : Option CutWrite) → SameStripe disk old new → SameStripe disk old (record new { cut = cut })
same-cut disk old new cut same = record {
  index = same.index;
  geometry = same.geometry;
  first_block = same.first_block;
  blocks = same.blocks;
  place = same.place;
  sectors = same.sectors;
  began = same.began;
  table = same.table;
}

-- the sectors of the same blocks
same-sectors : {D : Type 0} (disk : Ghosts D) (old new : Stripe D) → SameStripe disk old new → StripeFits disk old → disk.sectors new.disk ≡ part_sectors new.geometry new.first_block new.blocks
same-sectors disk old new same fits =
    same.sectors ∙ fits.size ∙ ap (λ (g : Geometry). part_sectors g old.first_block old.blocks) (sym same.geometry)
    ∙ ap (λ (first : ℕ). part_sectors new.geometry first old.blocks) (sym same.first_block) ∙ ap (λ (blocks : ℕ). part_sectors new.geometry new.first_block blocks) (sym same.blocks)

-- the same part
pub same-part : {D : Type 0} (disk : Ghosts D) (old new : Stripe D) → SameStripe disk old new → part_of old ≡ part_of new
same-part disk old new same =
    let size : old.geometry.block_sectors ≡ new.geometry.block_sectors = ap (λ (g : Geometry). g.block_sectors) (sym same.geometry) in
    ap (λ (first : ℕ). record { first = first; blocks = old.blocks; size = old.geometry.block_sectors }) (sym same.first_block)
    ∙ ap (λ (blocks : ℕ). record { first = new.first_block; blocks = blocks; size = old.geometry.block_sectors }) (sym same.blocks)
    ∙ ap (λ (size : ℕ). record { first = new.first_block; blocks = new.blocks; size = size }) size

-- it fits together again
pub fits-again : {D : Type 0} (disk : Ghosts D) (old new : Stripe D) → SameStripe disk old new → StripeFits disk old → new.seat.part.stripe ≡ old.seat.part.stripe
    → (new.seat.part.state.inside ≡ true → new.era ≡ new.seat.part.era) → CutFits old.geometry (part_of old) new.cut new.seat.part → StripeFits disk new
fits-again disk old new same fits number era cut = record {
  size = same-sectors disk old new same fits;
  seat = number ∙ fits.seat ∙ sym same.index;
  era = era;
  cut = subst (λ (part : Part). CutFits new.geometry part new.cut new.seat.part) (same-part disk old new same)
      (subst (λ (g : Geometry). CutFits g (part_of old) new.cut new.seat.part) (sym same.geometry) cut);
}

-- a draw alone
pub same-rest : {D : Type 0} (disk : Ghosts D) (old new : Stripe D) → SameRest old new → new.seat.table ≡ old.seat.table → SameStripe disk old new
same-rest disk old new same table = record {
  index = same.index;
  geometry = same.geometry;
  first_block = same.first_block;
  blocks = same.blocks;
  place = ap disk.place same.disk;
  sectors = ap disk.sectors same.disk;
  began = same.began;
  table = table;
}

-- the cut write of a stripe that is still inside
pub cut-moved : (geometry : Geometry) (part : Part) (cut : Option CutWrite) (seat seat' : StripePart) → seat'.state.flight ≡ seat.state.flight → (seat.state.inside ≡ true → seat'.state.inside ≡ true)
    → CutFits geometry part cut seat → CutFits geometry part cut seat'
cut-moved geometry part None seat seat' flight inside fits = flight ∙ fits
cut-moved geometry part (Some cut) seat seat' flight inside fits = record {
  inside = inside fits.inside;
  bytes = fits.bytes;
  flight = flight ∙ fits.flight;
  size = fits.size;
  of_part = fits.of_part;
  place = fits.place;
}

-- a draw that leaves the write in flight as it is
pub fits-noted : {D : Type 0} (disk : Ghosts D) (old new : Stripe D) (event : Event) (place : ℕ) → SameRest old new → new.seat ≡ record { table = old.seat.table; part = draws old.seat.part event place }
    → flight_after event old.seat.part.state.flight ≡ old.seat.part.state.flight → StripeFits disk old → StripeFits disk new
fits-noted disk old new event place same seat quiet fits =
    let inside = ap (λ (s : StripeToken). s.part.state.inside) seat in
    let flight = ap (λ (s : StripeToken). s.part.state.flight) seat ∙ quiet in
    fits-again disk old new (same-rest disk old new same (ap (λ (s : StripeToken). s.table) seat)) fits (ap (λ (s : StripeToken). s.part.stripe) seat)
    (λ is. same.era ∙ fits.era (sym inside ∙ is) ∙ sym (ap (λ (s : StripeToken). s.part.era) seat))
    (subst (λ cut. CutFits old.geometry (part_of old) cut new.seat.part) (sym same.cut)
    (cut-moved old.geometry (part_of old) old.cut old.seat.part new.seat.part flight (λ is. inside ∙ is) fits.cut))

pub stay-noted : {D : Type 0} (old new : Stripe D) (event : Event) (place : ℕ) → SameRest old new → new.seat ≡ record { table = old.seat.table; part = draws old.seat.part event place }
    → flight_after event old.seat.part.state.flight ≡ old.seat.part.state.flight → SameStay old new
stay-noted old new event place same seat quiet = record {
  inside = ap (λ (s : StripeToken). s.part.state.inside) seat;
  flight = ap (λ (s : StripeToken). s.part.state.flight) seat ∙ quiet;
  seen = ap (λ (s : StripeToken). s.part.seen) seat;
  era = same.era;
  cut = same.cut;
  table = ap (λ (s : StripeToken). s.table) seat;
}

-- the stay of a stripe whose disk was called, and whose room is used up
pub stay-called : {D : Type 0} (old new : Stripe D) (later : D) (room : Option Buffers) → SameStay (record old { disk = later; room = room }) new → SameStay old new
stay-called old new later room stay = record {
  inside = stay.inside;
  flight = stay.flight;
  seen = stay.seen;
  era = stay.era;
  cut = stay.cut;
  table = stay.table;
}

-- it fits together over the same disk later
pub fits-called : {D : Type 0} (disk : Ghosts D) (old : Stripe D) (later : D) (room : Option Buffers) → disk.sectors later ≡ disk.sectors old.disk → StripeFits disk old → StripeFits disk (record old { disk = later; room = room })
fits-called disk old later room size fits = record { size = size ∙ fits.size; seat = fits.seat; era = fits.era; cut = fits.cut }

-- device calls and then a draw keep what a stripe is
pub same-called : {D : Type 0} (disk : Ghosts D) (old new : Stripe D) (later : D) (room : Option Buffers) → disk.place later ≡ disk.place old.disk → disk.sectors later ≡ disk.sectors old.disk
    → SameRest (record old { disk = later; room = room }) new → new.seat.table ≡ old.seat.table → SameStripe disk old new
same-called disk old new later room place size same table = record {
  index = same.index;
  geometry = same.geometry;
  first_block = same.first_block;
  blocks = same.blocks;
  place = ap disk.place same.disk ∙ place;
  sectors = ap disk.sectors same.disk ∙ size;
  began = same.began;
  table = table;
}

-- a command may still draw behind device calls
pub may-called : {D : Type 0} (gate : GateToken) (old : Stripe D) (later : D) (room : Option Buffers) (pass : PassToken) (id : CmdId) (draws : ℕ) → MayCall gate old pass id draws
    → MayCall gate (record old { disk = later; room = room }) pass id draws
may-called gate old later room pass id draws call = record { table = call.table; pass_table = call.pass_table; lane = call.lane; budget = call.budget; room = call.room }

-- where the sectors of a read stand on the part's disk
pub read-sector : (sector size first : ℕ) → first ≤ sector / size → (first * size ≤ sector) × (sector - first * size ≡ (sector / size - first) * size + sector % size)
read-sector sector size first le =
    let whole = div-add-mod' sector size in
    let back : (sector / size - first) + first ≡ sector / size = omega (arith, le) in
    let split : ((sector / size - first) + first) * size ≡ (sector / size - first) * size + first * size = omega arith in
    let product : sector / size * size ≡ (sector / size - first) * size + first * size = ap (λ n. n * size) (sym back) ∙ split in
    (omega (arith, whole, product), omega (arith, whole, product))

-- what a settling did, by the write that was cut
pub did-none : {D : Type 0} (disk : Ghosts D) (cut : Option CutWrite) (by : CmdId) (old new : Stripe D) (pass pass' : PassToken) → cut ≡ None → HadNone old new pass pass' → SettleDid disk cut by (Ok tt) old new pass pass'
did-none disk cut by old new pass pass' none had = subst (λ cut. SettleDid disk cut by (Ok tt) old new pass pass') (sym none) had

pub did-resolve : {D : Type 0} (disk : Ghosts D) (found : Option CutWrite) (cut : CutWrite) (by : CmdId) (old new : Stripe D) (pass pass' : PassToken) → found ≡ Some cut → Resolved disk cut by old new pass pass'
    → SettleDid disk found by (Ok tt) old new pass pass'
did-resolve disk found cut by old new pass pass' some did = subst (λ cut. SettleDid disk cut by (Ok tt) old new pass pass') (sym some) did

pub did-fail : {D : Type 0} (disk : Ghosts D) (found : Option CutWrite) (cut : CutWrite) (by : CmdId) (count : ℕ) (old new : Stripe D) (pass pass' : PassToken) → found ≡ Some cut → Unresolved disk cut count old new pass pass'
    → SettleDid disk found by (Err count) old new pass pass'
did-fail disk found cut by count old new pass pass' some did = subst (λ cut. SettleDid disk cut by (Err count) old new pass pass') (sym some) did

-- a settling or a passing over meets the write that is cut
pub cut-there : {D : Type 0} (stripe : Stripe D) (cut : CutWrite) → stripe.cut ≡ Some cut → CutFits stripe.geometry (part_of stripe) stripe.cut stripe.seat.part → IsCutWrite stripe.geometry (part_of stripe) cut stripe.seat.part
cut-there stripe cut is fits = subst (λ cut. CutFits stripe.geometry (part_of stripe) cut stripe.seat.part) is fits
