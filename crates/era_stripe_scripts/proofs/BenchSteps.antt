-- A bench from call to call.
use Rattle.std.proofs.Common.{◌≡◌, ℕ, ◌+◌, ◌≤◌, Bool, true, false, Option, Some, None, arith, refl, sym, ap, ◌∙◌, subst}
use Rattle.std.specs.Prelude.{Result, Ok, Err, is_some}
use Rattle.std.proofs.lemmas.Bool.{ne_eqb}
use Rattle.era_base.specs.declared.disk.Disk.{Ghosts}
use Rattle.era_base.specs.declared.ids.CmdId.{CmdId}
use Rattle.era_gate.specs.Calls.{GateToken, PassToken, StripeToken}
use Rattle.era_gate.specs.Passes.{KeepsPass, no_write}
use Rattle.era_model.specs.declared.opening.Opening.{Opening}
use Rattle.era_notes.specs.Parts.{IsIn, IsPlace}
use Rattle.era_notes.specs.Rooms.{free_in, HoldBytes}
use Rattle.era_stripe.specs.Calls.{SameButStay, SameRest, SameStripe}
use Rattle.era_stripe.specs.Results.{SettleDid, CutIs, PassedOver, only}
use Rattle.era_stripe.specs.Stripes.{StripeFits, StripeStands, StripeView, part_of, view_of}
use Rattle.era_stripe.specs.declared.cut_write.CutWrite.{CutWrite}
use Rattle.era_stripe.specs.declared.stripe.Stripe.{Stripe}
use Rattle.era_stripe_scripts.specs.Benches.{IsBench, HasThreeBlocks, IsSpan, SettledTo, command}

-- what stays of a stripe
pub record SameBench {D : Type 0} (old new : Stripe D) : Type 0 where
  pub table : new.seat.table ≡ old.seat.table
  pub geometry : new.geometry ≡ old.geometry
  pub first_block : new.first_block ≡ old.first_block
  pub blocks : new.blocks ≡ old.blocks

pub same-bench : {D : Type 0} (disk : Ghosts D) (old new : Stripe D) → SameStripe disk old new → SameBench old new
same-bench disk old new same = record { table = same.table; geometry = same.geometry; first_block = same.first_block; blocks = same.blocks }

pub same-then : {D : Type 0} (a b c : Stripe D) → SameBench a b → SameBench b c → SameBench a c
same-then a b c one two =
    record { table = two.table ∙ one.table; geometry = two.geometry ∙ one.geometry; first_block = two.first_block ∙ one.first_block; blocks = two.blocks ∙ one.blocks }

pub same-stay : {D : Type 0} (old new : Stripe D) → SameButStay old new → new.seat.table ≡ old.seat.table → SameBench old new
same-stay old new same table = record { table = table; geometry = same.geometry; first_block = same.first_block; blocks = same.blocks }

pub same-rest : {D : Type 0} (old new : Stripe D) → SameRest old new → new.seat.table ≡ old.seat.table → SameBench old new
same-rest old new same table = record { table = table; geometry = same.geometry; first_block = same.first_block; blocks = same.blocks }

pub admitted : {D : Type 0} (disk : Ghosts D) (old new : Stripe D) → view_of disk new ≡ view_of disk old → new.seat ≡ old.seat → SameBench old new
admitted disk old new view seat = record {
  table = ap (λ (s : StripeToken). s.table) seat;
  geometry = ap (λ (v : StripeView). v.geometry) view;
  first_block = ap (λ (v : StripeView). v.part.first) view;
  blocks = ap (λ (v : StripeView). v.part.blocks) view;
}

same-blocks : {D : Type 0} (old new : Stripe D) → SameBench old new → HasThreeBlocks old → HasThreeBlocks new
same-blocks old new same part = record {
  sectors = ap (λ g. g.sectors) same.geometry ∙ part.sectors;
  size = ap (λ g. g.block_sectors) same.geometry ∙ part.size;
  first = same.first_block ∙ part.first;
  blocks = same.blocks ∙ part.blocks;
}

-- calls that drew a few events, and issued at most the write of the command before a number
pub bench-next : {D : Type 0} (disk : Ghosts D) (number later drawn more k : ℕ) (issued : CmdId → Bool) (gate : GateToken) (old new : Stripe D) (pass pass' : PassToken)
    → IsBench disk number drawn gate old pass → SameBench old new → StripeFits disk new → ((opening : Opening) → StripeStands disk opening old → StripeStands disk opening new)
    → KeepsPass k issued pass pass' → drawn + k ≤ more → number ≤ later → ((n : ℕ) → later ≤ n → issued (command n) ≡ false) → IsBench disk later more gate new pass'
bench-next disk number later drawn more k issued gate old new pass pass' bench same fits stands keeps few le others = record {
  table = same.table ∙ bench.table;
  pass_table = keeps.table ∙ bench.pass_table;
  covers = bench.covers;
  part = same-blocks old new same bench.part;
  fits = fits;
  stands = (bench.stands.0, stands bench.stands.0 bench.stands.1);
  lane = keeps.lanes 0 ∙ bench.lane;
  budget = omega (arith, keeps.budget, bench.budget, few);
  fresh = λ n low. keeps.gone (command n) (others n low) ∙ bench.fresh n (omega (arith, le, low));
}

-- the write of another command
pub others-than : (number n : ℕ) → number + 1 ≤ n → only (command number) (command n) ≡ false
others-than number n low = ne_eqb number n (λ same. absurd (omega (arith, low, same)))

-- a span is a place of the part
pub span-in : {D : Type 0} (stripe : Stripe D) (block first count : ℕ) → HasThreeBlocks stripe → IsSpan block first count → IsIn (part_of stripe) block
span-in stripe block first count part span = record { low = omega (arith, part.first); high = omega (arith, part.first, part.blocks, span.low) }

pub span-place : {D : Type 0} (stripe : Stripe D) (block first count : ℕ) → HasThreeBlocks stripe → IsSpan block first count → IsPlace stripe.geometry block first count
span-place stripe block first count part span = record {
  some = span.some;
  whole = span.whole;
  place = rw (part.sectors, part.size) span.place;
  in_block = rw part.size span.in_block;
  within = rw (part.sectors, part.size) span.within;
}

-- a write is cut
pub cut-is_some : (cut : Option CutWrite) (id : CmdId) (block first count : ℕ) → CutIs cut id block first count → is_some cut ≡ true
cut-is_some None id block first count is = absurd is
cut-is_some (Some cut) id block first count is = refl

-- what a settling came to
pub settled-to : {D : Type 0} (disk : Ghosts D) (cut : Option CutWrite) (by : CmdId) (result : Result Unit ℕ) (old new : Stripe D) (pass pass' : PassToken) (payload : ℕ) (opening : Opening)
    → SettleDid disk cut by result old new pass pass' → StripeStands disk opening old → 3 ≤ free_in old.entries → HoldBytes payload old.room → SettledTo disk payload result new
settled-to disk None by (Ok value) old new pass pass' payload opening did stands free hold = record {
  uncut = did.uncut;
  entries = omega (arith, did.drew.kept.room, free);
  buffers = subst (HoldBytes payload) (sym did.room) hold;
}
settled-to disk None by (Err count) old new pass pass' payload opening did stands free hold = absurd did
settled-to disk (Some cut) by (Ok value) old new pass pass' payload opening did stands free hold = record {
  uncut = did.uncut;
  entries = omega (arith, did.drew.kept.room, free);
  buffers = subst (HoldBytes payload) (sym did.room) hold;
}
settled-to disk (Some cut) by (Err count) old new pass pass' payload opening did stands free hold = record {
  cut = cut-is_some new.cut cut.id cut.block cut.first _ did.still_cut;
  entries = omega (arith, did.drew.kept.room, free);
  new = did.risen opening stands;
}

-- and how it keeps a pass
pub settled-keeps : {D : Type 0} (disk : Ghosts D) (cut : Option CutWrite) (by : CmdId) (result : Result Unit ℕ) (old new : Stripe D) (pass pass' : PassToken) → SettleDid disk cut by result old new pass pass'
    → (k : ℕ) × (k ≤ 1) × KeepsPass k no_write pass pass'
settled-keeps disk None by (Ok value) old new pass pass' did = (0, omega arith, did.drew.keeps)
settled-keeps disk None by (Err count) old new pass pass' did = absurd did
settled-keeps disk (Some cut) by (Ok value) old new pass pass' did = (1, omega arith, did.drew.keeps)
settled-keeps disk (Some cut) by (Err count) old new pass pass' did = (0, omega arith, did.drew.keeps)

pub passed-keeps : {D : Type 0} (cut : Option CutWrite) (by : CmdId) (count : ℕ) (old new : Stripe D) (pass pass' : PassToken) → PassedOver cut by count old new pass pass' → KeepsPass 1 no_write pass pass'
passed-keeps None by count old new pass pass' did = absurd did
passed-keeps (Some cut) by count old new pass pass' did = did.keeps

-- the disk of a bench
pub bench-sectors : {D : Type 0} (disk : Ghosts D) (number drawn : ℕ) (gate : GateToken) (stripe : Stripe D) (pass : PassToken) → IsBench disk number drawn gate stripe pass → disk.sectors stripe.disk ≡ 20
bench-sectors disk number drawn gate stripe pass bench = bench.fits.size ∙ rw (bench.part.sectors, bench.part.size, bench.part.first, bench.part.blocks) refl
