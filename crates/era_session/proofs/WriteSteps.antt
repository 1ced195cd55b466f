-- A write step by step: what each call of it asks of what the calls before left.
use Rattle.std.proofs.Common.{◌≡◌, ℕ, ◌+◌, ◌<◌, ◌≤◌, true, false, List, [], ◌∷◌, length, Option, Some, None, Result, Ok, Err, refl, sym, ap, ◌∙◌, subst, arith}
use Rattle.std.specs.Prelude.{is_some}
use Rattle.era_base.specs.declared.disk.Disk.{Ghosts}
use Rattle.era_base.specs.declared.geometry.Geometry.{Geometry}
use Rattle.era_base.specs.declared.ids.CmdId.{CmdId}
use Rattle.era_gate.specs.Calls.{GateToken, PassToken, has_gone, has_lane}
use Rattle.era_gate.specs.Passes.{no_write}
use Rattle.era_model.specs.declared.event.Event.{Event}
use Rattle.era_model.specs.declared.event.Event.TheVariants.{Settle}
use Rattle.era_notes.specs.Parts.{IsPlace}
use Rattle.era_notes.specs.Rooms.{HoldBytes, free_in}
use Rattle.era_notes.specs.declared.buffers.Buffers.{Buffers}
use Rattle.era_session.specs.Chunks.{ChunkDrew}
use Rattle.era_session.specs.Desks.{Desk, desk}
use Rattle.era_session.specs.Marking.{IsInsideFor, MayMark}
use Rattle.era_session.specs.Receipts.{PassDrew}
use Rattle.era_session.specs.Writes.{IsSettling, MayWrite}
use Rattle.era_session.proofs.Receipts.{stripe-drew}
use Rattle.era_stripe.specs.Calls.{Drew, MayDrawFault, MayHold, SameButStay, SameStripe}
use Rattle.era_stripe.specs.Results.{AfterWrite, CutIs, MaySettleBy, MayWriteSeen, SettleDid}
use Rattle.era_stripe.specs.Stripes.{IsAtRest, StripeFits}
use Rattle.era_stripe.specs.declared.cut_write.CutWrite.{CutWrite}
use Rattle.era_stripe.specs.declared.stripe.Stripe.{Stripe}

-- an earlier write may be resolved
pub may-settle : {D : Type 0} (disk : Ghosts D) (gate : GateToken) (old : Desk D) (id : CmdId) (block first count : ℕ) → MayWrite disk gate old id block first count → MaySettleBy disk gate old.stripe old.pass id
may-settle disk gate old id block first count may = record {
  fits = may.fits.stripe;
  rest = may.fits.rest;
  call = record {
    table = may.fits.seats.0;
    pass_table = may.fits.pass;
    lane = may.lane;
    budget = let a = may.budget in omega (arith, a);
    room = let a = may.rooms.0 in omega (arith, a);
  };
}

-- a refusal may be drawn where nothing was drawn so far
pub may-refuse : {D : Type 0} (disk : Ghosts D) (gate : GateToken) (old : Desk D) (stripe : Stripe D) (pass : PassToken) (id : CmdId) (block first count : ℕ) → MayWrite disk gate old id block first count → StripeFits disk stripe
    → stripe.seat ≡ old.stripe.seat → Drew [] no_write old.stripe stripe old.pass pass → MayDrawFault disk gate stripe pass id
may-refuse disk gate old stripe pass id block first count may fits seat drew = record {
  fits = fits;
  call = record {
    table = ap (λ s. s.table) seat ∙ may.fits.seats.0;
    pass_table = drew.keeps.table ∙ may.fits.pass;
    lane = drew.keeps.lanes id.lane ∙ may.lane;
    budget = let a = may.budget in let b = drew.keeps.budget in omega (arith, a, b);
    room = let a = may.rooms.0 in let b = drew.kept.room in omega (arith, a, b);
  };
}

-- the blocks of a stripe that is over the same part
hold-same : {D : Type 0} (old new : Stripe D) (block first count : ℕ) → new.first_block ≡ old.first_block → new.blocks ≡ old.blocks → new.geometry ≡ old.geometry → new.room ≡ old.room → MayHold old block first count → MayHold new block first count
hold-same old new block first count start blocks geometry room hold = record {
  of_part = record {
    low = subst (λ n. n ≤ block) (sym start) hold.of_part.low;
    high = subst (λ n. block < n + new.blocks) (sym start) (subst (λ n. block < old.first_block + n) (sym blocks) hold.of_part.high);
  };
  place = subst (λ (g : Geometry). IsPlace g block first count) (sym geometry) hold.place;
  buffers = subst (λ (r : Option Buffers). HoldBytes count r) (sym room) hold.buffers;
}

-- an earlier write was resolved, if there was one: the block's mark may be asked for, there is room for a write's entries and bytes, and this was drawn
pub record IsReady {D : Type 0} (disk : Ghosts D) (gate : GateToken) (cut : Option CutWrite) (id : CmdId) (block first count : ℕ) (old new : Desk D) : Type 0 where
  pub may : MayMark disk gate new id block
  pub once : has_gone id new.pass.part.lanes ≡ false
  pub budget : 23 ≤ new.pass.part.budget
  pub room : 2 ≤ free_in new.stripe.entries
  pub hold : MayHold new.stripe block first count
  pub before : List Event
  pub settling : IsSettling cut id before
  pub drew : ChunkDrew before no_write old.pass new.pass old.stripe.entries new.stripe.entries

-- what a settling that succeeded left
ready-by : {D : Type 0} (disk : Ghosts D) (gate : GateToken) (cut : Option CutWrite) (id : CmdId) (block first count : ℕ) (old : Desk D) (stripe : Stripe D) (pass : PassToken) (before : List Event)
    → MayWrite disk gate old id block first count → StripeFits disk stripe → IsAtRest stripe → SameStripe disk old.stripe stripe → stripe.cut ≡ None → stripe.room ≡ old.stripe.room → length before ≤ 1
    → IsSettling cut id before → Drew before no_write old.stripe stripe old.pass pass → IsReady disk gate cut id block first count old (desk stripe old.keeper pass)
ready-by disk gate cut id block first count old stripe pass before may fits rest same uncut room few settling drew = record {
  may = record {
    fits = record {
      stripe = fits;
      rest = rest;
      keeper = may.fits.keeper;
      seats = (same.table ∙ may.fits.seats.0, may.fits.seats.1);
      pass = drew.keeps.table ∙ may.fits.pass;
      blocks = may.fits.blocks;
    };
    uncut = uncut;
    lane = drew.keeps.lanes id.lane ∙ may.lane;
    budget = let a = may.budget in let b = drew.keeps.budget in omega (arith, a, b, few);
    room = let a = may.rooms.1 in omega (arith, a);
    of_origin = may.of_origin;
  };
  once = drew.keeps.gone id refl ∙ may.once;
  budget = let a = may.budget in let b = drew.keeps.budget in omega (arith, a, b, few);
  room = let a = may.rooms.0 in let b = drew.kept.room in omega (arith, a, b, few);
  hold = hold-same old.stripe stripe block first count same.first_block same.blocks same.geometry room may.hold;
  before = before;
  settling = settling;
  drew = stripe-drew before no_write old.stripe stripe old.pass pass drew;
}

pub ready : {D : Type 0} (disk : Ghosts D) (gate : GateToken) (cut : Option CutWrite) (id : CmdId) (block first count : ℕ) (old : Desk D) (stripe : Stripe D) (pass : PassToken)
    → MayWrite disk gate old id block first count → StripeFits disk stripe → IsAtRest stripe → SameStripe disk old.stripe stripe → SettleDid disk cut id (Ok tt) old.stripe stripe old.pass pass
    → IsReady disk gate cut id block first count old (desk stripe old.keeper pass)
ready disk gate None id block first count old stripe pass may fits rest same did =
    ready-by disk gate None id block first count old stripe pass [] may fits rest same did.uncut did.room (omega arith) refl did.drew
ready disk gate (Some cut) id block first count old stripe pass may fits rest same did =
    ready-by disk gate (Some cut) id block first count old stripe pass (Settle id cut.id did.bytes ∷ []) may fits rest same did.uncut did.room (omega arith) (did.bytes, did.size, refl) did.drew

-- the bytes may be written
pub may-write-seen : {D : Type 0} (disk : Ghosts D) (gate : GateToken) (settled marked : Desk D) (id : CmdId) (block first count : ℕ) (marks : List Event) → has_gone id settled.pass.part.lanes ≡ false → 23 ≤ settled.pass.part.budget
    → has_lane id.lane settled.pass.part.lanes ≡ true → 2 ≤ free_in settled.stripe.entries → MayHold settled.stripe block first count → IsInsideFor disk gate block marked → SameButStay settled.stripe marked.stripe
    → length marks ≤ 2 → PassDrew marks no_write settled.pass marked.pass → MayWriteSeen disk gate marked.stripe marked.pass id block first count
may-write-seen disk gate settled marked id block first count marks once budget lane room hold inside same few drew = record {
  fits = inside.stripe;
  call = record {
    table = inside.seats.0;
    pass_table = inside.pass;
    lane = drew.keeps.lanes id.lane ∙ lane;
    budget = let b = drew.keeps.budget in omega (arith, budget, b, few);
    room = subst (λ chunks. 2 ≤ free_in chunks) (sym same.entries) room;
  };
  issue = record {
    uncut = inside.uncut;
    inside = inside.inside;
    saw = inside.saw;
    once = drew.keeps.gone id refl ∙ once;
  };
  hold = hold-same settled.stripe marked.stripe block first count same.first_block same.blocks same.geometry same.room hold;
}

-- a stripe whose cut write is that one has one
cut-is-some : (cut : Option CutWrite) (id : CmdId) (block first count : ℕ) → CutIs cut id block first count → is_some cut ≡ true
cut-is-some None id block first count is = absurd is
cut-is-some (Some cut) id block first count is = refl

-- a stripe is at rest after a write
pub rests : {D : Type 0} (id : CmdId) (block first count : ℕ) (result : Result Unit ℕ) (stripe : Stripe D) → AfterWrite id block first count result stripe → IsAtRest stripe
rests id block first count (Ok value) stripe after = after.1 ∙ ap (λ (cut : Option CutWrite). is_some cut) (sym after.0)
rests id block first count (Err error) stripe after = after.1 ∙ sym (cut-is-some stripe.cut id block first count after.0)
