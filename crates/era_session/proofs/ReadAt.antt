-- What a read did at its stripe.
use Rattle.std.proofs.Common.{◌≡◌, ℕ, ◌*◌, ◌-◌, ◌/◌, true, List, [], ◌∷◌, ◌++◌, length, take, Option, Some, None, refl, sym, ap, subst, arith}
use Rattle.std.specs.Prelude.{Ok, Err}
use Rattle.era_base.specs.Disk.{Reads}
use Rattle.era_base.specs.Faults.{HasCount}
use Rattle.era_base.specs.declared.disk.Disk.{Ghosts}
use Rattle.era_base.specs.declared.ids.CmdId.{CmdId}
use Rattle.era_gate.specs.Calls.{PassToken}
use Rattle.era_gate.specs.Passes.{KeepsPass, no_write}
use Rattle.era_keeper.specs.declared.keeper.Keeper.{Keeper}
use Rattle.era_model.specs.declared.reply.Answer.{Answer}
use Rattle.era_model.specs.declared.reply.Answer.TheVariants.{Fault, Found, Range}
use Rattle.era_model.specs.declared.reply.Device.TheVariants.{Data as DataDevice}
use Rattle.era_notes.specs.Rooms.{last_in}
use Rattle.era_session.specs.AtStripes.{DidAt}
use Rattle.era_session.specs.Desks.{desk}
use Rattle.era_session.specs.Reads.{ReadAt, ReadDid, read_events}
use Rattle.era_session.specs.declared.session.Session.{Session}
use Rattle.era_session.proofs.AtStripes.{keeper-same}
use Rattle.era_session.proofs.Receipts.{last-first, stripe-drew}
use Rattle.era_stripe.specs.Calls.{Drew, SameStripe}
use Rattle.era_stripe.specs.declared.stripe.Stripe.{Stripe}

-- a buffer that is filled anew has what it was filled with
front : (bytes rest : List ℕ) → take (length bytes) (bytes ++ rest) ≡ bytes
front [] rest = refl
front (b ∷ bytes) rest = ap (λ l. b ∷ l) (front bytes rest)

pub refilled : (n : ℕ) (bytes rest : List ℕ) → length bytes ≡ n → take n (bytes ++ rest) ≡ bytes
refilled n bytes rest is = subst (λ m. take m (bytes ++ rest) ≡ bytes) is (front bytes rest)

-- a pass is kept where nothing is called
pub keeps-itself : (pass : PassToken) → KeepsPass 0 no_write pass pass
keeps-itself pass = record {
  table = refl;
  lanes = λ l. refl;
  gone = λ id none. refl;
  budget = omega arith;
  floor = omega arith;
  begun = λ d. omega arith;
  ended = λ d. omega arith;
}

-- the bytes were read
pub read-found : {D : Type 0} (disk : Ghosts D) (id : CmdId) (sector count : ℕ) (bytes : List ℕ) (before new : Stripe D) (pass pass' : PassToken) (keeper : Keeper D) → length bytes ≡ count * 512 → last_in before.entries ≡ []
    → Drew (read_events id sector before.index (Found bytes)) no_write before new pass pass'
    → (disk.tells ≡ true → Reads {T = Unit} {E = ℕ} (sector - before.first_block * before.geometry.block_sectors) bytes (Ok tt) (disk.history before.disk) (disk.history new.disk))
    → new.cut ≡ before.cut → SameStripe disk before new → HasCount {T = Unit} (disk.faults before.disk) (disk.faults new.disk) (Ok tt)
    → ReadAt disk id sector count (Found bytes) (desk before keeper pass) (desk new keeper pass')
read-found disk id sector count bytes before new pass pass' keeper size undrawn drew told cut same cause = record {
  answers = size;
  called = told;
  drew = (stripe-drew (read_events id sector before.index (Found bytes)) no_write before new pass pass' drew).drew;
  trail = sym (last-first before.entries new.entries _ undrawn (stripe-drew (read_events id sector before.index (Found bytes)) no_write before new pass pass' drew).last);
  keeper = refl;
  cut = cut;
  same = record { stripe = same; keeper = keeper-same disk keeper };
  cause = (cause.cause.kept, refl);
}

-- the part failed
pub read-failed : {D : Type 0} (disk : Ghosts D) (id : CmdId) (sector count failed : ℕ) (bytes : List ℕ) (before new : Stripe D) (pass pass' : PassToken) (keeper : Keeper D) → last_in before.entries ≡ []
    → Drew (read_events id sector before.index (Fault DataDevice failed)) no_write before new pass pass'
    → (disk.tells ≡ true → Reads {T = Unit} {E = ℕ} (sector - before.first_block * before.geometry.block_sectors) bytes (Err failed) (disk.history before.disk) (disk.history new.disk))
    → new.cut ≡ before.cut → SameStripe disk before new → HasCount {T = Unit} (disk.faults before.disk) (disk.faults new.disk) (Err failed)
    → ReadAt disk id sector count (Fault DataDevice failed) (desk before keeper pass) (desk new keeper pass')
read-failed disk id sector count failed bytes before new pass pass' keeper undrawn drew told cut same cause = record {
  answers = refl;
  called = λ tells. (bytes, told tells);
  drew = (stripe-drew (read_events id sector before.index (Fault DataDevice failed)) no_write before new pass pass' drew).drew;
  trail = sym (last-first before.entries new.entries _ undrawn (stripe-drew (read_events id sector before.index (Fault DataDevice failed)) no_write before new pass pass' drew).last);
  keeper = refl;
  cut = cut;
  same = record { stripe = same; keeper = keeper-same disk keeper };
  cause = (cause.count, cause.cause.failed, refl);
}

-- nothing was done where the sectors lie in no one block
pub did-nothing : {D : Type 0} (disk : Ghosts D) (place : Option (ℕ × ℕ)) (id : CmdId) (sector count : ℕ) (session : Session D) → place ≡ None → ReadDid disk place id sector count Range session session
did-nothing disk place id sector count session is = subst (λ (p : Option (ℕ × ℕ)). ReadDid disk p id sector count Range session session) (sym is) (refl, refl)

-- the read went through at the stripe of the sectors' block
pub did-read : {D : Type 0} (disk : Ghosts D) (place : Option (ℕ × ℕ)) (id : CmdId) (sector count block first : ℕ) (answer : Answer) (old new : Session D) → place ≡ Some (block, first)
    → DidAt disk (block / old.each) (ReadAt disk id sector count answer) old new → ReadDid disk place id sector count answer old new
did-read disk place id sector count block first answer old new is did = subst (λ (p : Option (ℕ × ℕ)). ReadDid disk p id sector count answer old new) (sym is) did
