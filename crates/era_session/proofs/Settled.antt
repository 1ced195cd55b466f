-- What a settling came to at a stripe, for a checkpoint: what was drawn, and what is still cut.
use Rattle.std.proofs.Common.{◌≡◌, ℕ, zero, suc, ◌+◌, ◌++◌, ◌≤◌, true, List, [], ◌∷◌, length, slice_get, slice_set, take, Option, Some, None, Result, Ok, Err, refl, sym, ap, ◌∙◌, subst, arith}
use Rattle.std.specs.Prelude.{is_some, vec_len}
use Rattle.era_base.specs.Faults.{HasCount}
use Rattle.era_base.specs.declared.disk.Disk.{Ghosts}
use Rattle.era_base.specs.declared.ids.CmdId.{CmdId}
use Rattle.era_gate.specs.Calls.{PassToken}
use Rattle.era_gate.specs.Passes.{KeepsPass, no_write}
use Rattle.std.proofs.lemmas.List.{append_assoc, append-nil, length-append}
use Rattle.std.proofs.lemmas.Option.{none-some}
use Rattle.era_model.specs.declared.entry.Entry.{Entry}
use Rattle.era_model.specs.declared.event.Event.{Event}
use Rattle.era_notes.specs.Rooms.{last_in}
use Rattle.era_session.proofs.Receipts.{trail-both, trail-nothing}
use Rattle.era_session.specs.Chunks.{stripes_trail}
use Rattle.era_session.specs.declared.session.Session.{Session}
use Rattle.era_model.specs.declared.event.Event.TheVariants.{Unsettled}
use Rattle.era_model.specs.declared.opening.Opening.{Opening}
use Rattle.era_session.specs.Checkpoints.{SettledAt, Settlings, settling_events}
use Rattle.era_stripe.specs.Calls.{Drew, IsNewCount}
use Rattle.era_stripe.specs.Results.{CutIs, PassedOver, SettleDid}
use Rattle.era_stripe.specs.Stripes.{StripeStands}
use Rattle.era_stripe.specs.declared.cut_write.CutWrite.{CutWrite}
use Rattle.era_stripe.specs.declared.stripe.Stripe.{Stripe}

-- what a settling that succeeded drew
pub record OkDrew {D : Type 0} (cut : Option CutWrite) (by : CmdId) (old new : Stripe D) (pass pass' : PassToken) : Type 0 where
  pub bytes : List ℕ
  pub drew : Drew (settling_events cut by bytes (Ok tt)) no_write old new pass pass'

pub ok-drew : {D : Type 0} (disk : Ghosts D) (cut : Option CutWrite) (by : CmdId) (old new : Stripe D) (pass pass' : PassToken) → SettleDid disk cut by (Ok tt) old new pass pass' → OkDrew cut by old new pass pass'
ok-drew disk None by old new pass pass' did = record { bytes = []; drew = did.drew }
ok-drew disk (Some cut) by old new pass pass' did = record { bytes = did.bytes; drew = did.drew }

-- a settling that failed drew nothing, and its count may be told by a stripe that stands
pub record ErrLeft {D : Type 0} (disk : Ghosts D) (count : ℕ) (old new : Stripe D) (pass pass' : PassToken) : Type 0 where
  pub drew : Drew [] no_write old new pass pass'
  pub still : is_some new.cut ≡ true
  pub inside : new.seat ≡ old.seat
  pub risen : (opening : Opening) → StripeStands disk opening old → IsNewCount disk new count

still-cut : (found : Option CutWrite) (id : CmdId) (block first size : ℕ) → CutIs found id block first size → is_some found ≡ true
still-cut None id block first size is = absurd is
still-cut (Some cut) id block first size is = refl

pub err-left : {D : Type 0} (disk : Ghosts D) (cut : Option CutWrite) (by : CmdId) (count : ℕ) (old new : Stripe D) (pass pass' : PassToken) → SettleDid disk cut by (Err count) old new pass pass' → ErrLeft disk count old new pass pass'
err-left disk None by count old new pass pass' did = absurd did
err-left disk (Some cut) by count old new pass pass' did = record {
  drew = did.drew;
  still = still-cut new.cut cut.id cut.block cut.first (vec_len cut.buffer) did.still_cut;
  inside = did.seat;
  risen = did.risen;
}

-- a cut write that was passed over is the one that couldn't be resolved
passed-same : {D : Type 0} (cut : CutWrite) (still : Option CutWrite) (by : CmdId) (count : ℕ) (old new : Stripe D) (pass pass' : PassToken) → CutIs still cut.id cut.block cut.first (vec_len cut.buffer)
    → PassedOver still by count old new pass pass' → Drew (settling_events (Some cut) by [] (Err count)) no_write old new pass pass'
passed-same cut None by count old new pass pass' is passed = absurd is
passed-same cut (Some other) by count old new pass pass' is passed =
    subst (λ id. Drew (Unsettled by id count ∷ []) no_write old new pass pass') is.of passed

pub passed-drew : {D : Type 0} (disk : Ghosts D) (cut : Option CutWrite) (by : CmdId) (count : ℕ) (old settled new : Stripe D) (pass between pass' : PassToken) → SettleDid disk cut by (Err count) old settled pass between
    → PassedOver settled.cut by count settled new between pass' → Drew (settling_events cut by [] (Err count)) no_write settled new between pass'
passed-drew disk None by count old settled new pass between pass' did passed = absurd did
passed-drew disk (Some cut) by count old settled new pass between pass' did passed = passed-same cut settled.cut by count settled new between pass' did.still_cut passed

-- at most one event
pub few-settled : (cut : Option CutWrite) (by : CmdId) (bytes : List ℕ) (result : Result Unit ℕ) → length (settling_events cut by bytes result) ≤ 1
few-settled None by bytes result = omega arith
few-settled (Some cut) by bytes (Ok value) = omega arith
few-settled (Some cut) by bytes (Err count) = omega arith

-- the count of faults over steps that leave the disk
pub cause-over : {D : Type 0} (disk : Ghosts D) (old before settled new : Stripe D) (result : Result Unit ℕ) → before.disk ≡ old.disk → new.disk ≡ settled.disk
    → HasCount (disk.faults before.disk) (disk.faults settled.disk) result → HasCount (disk.faults old.disk) (disk.faults new.disk) result
cause-over {D} disk old before settled new result admitted left cause =
    subst (λ (d : D). HasCount (disk.faults d) (disk.faults new.disk) result) admitted
    (subst (λ (d : D). HasCount (disk.faults before.disk) (disk.faults d) result) (sym left) cause)

-- the entries of stripes up to one that was replaced
pub trail-to : {D : Type 0} (stripes : List (Stripe D)) (k : ℕ) (old new : Stripe D) → slice_get stripes k ≡ Some old → stripes_trail (take (suc k) (slice_set stripes k new)) ≡ stripes_trail (take k stripes) ++ last_in new.entries
trail-to [] k old new found = absurd (none-some old found)
trail-to (stripe ∷ stripes) zero old new found = append-nil (last_in new.entries)
trail-to (stripe ∷ stripes) (suc k) old new found =
    ap (λ (es : List Entry). last_in stripe.entries ++ es) (trail-to stripes k old new found)
    ∙ sym (append_assoc (last_in stripe.entries) (stripes_trail (take k stripes)) (last_in new.entries))

-- one stripe more
pub settlings-next : {D : Type 0} (disk : Ghosts D) (by : CmdId) (k : ℕ) (own : List Event) (old between new : Session D) → Settlings disk by k old between → SettledAt disk by k own between new → Settlings disk by (k + 1) old new
settlings-next {D} disk by k own old between new before at =
    let all = trail-both before.events own (stripes_trail (take k between.stripes.items)) (last_in at.after.entries) no_write no_write no_write old.pass between.pass new.pass (λ id none. (none, none))
    (record { drew = before.drew; are = before.trail }) (record { drew = at.did.drew; are = at.did.trail }) in
    let next : Settlings disk by (suc k) old new = record {
      events = before.events ++ own;
      below = (between, before.events, own, before.below, at, refl);
      drew = all.drew;
      trail = all.are ∙ sym (ap (λ (xs : List (Stripe D)). stripes_trail (take (suc k) xs)) at.stripes
          ∙ trail-to between.stripes.items k at.stripe at.after at.found);
      few = few-more (subst (λ (events : List Event). length events ≤ 1) (sym at.did.events_are) (few-settled at.stripe.cut by at.did.bytes at.did.result));
    } in
    let one : suc k ≡ k + 1 = omega arith in
    subst (λ (n : ℕ). Settlings disk by n old new) one next
  where
    few-more : length own ≤ 1 → length (before.events ++ own) ≤ suc k
    few-more few = rw (length-append before.events own) (let so = before.few in omega (arith, few, so))

-- none yet
pub settlings-none : {D : Type 0} (disk : Ghosts D) (by : CmdId) (session : Session D) → Settlings disk by 0 session session
settlings-none disk by session = let none = trail-nothing no_write session.pass session.pass refl (keeps-none session.pass) in record {
  events = [];
  below = (refl, refl);
  drew = none.drew;
  trail = none.are;
  few = omega arith;
}
  where
    keeps-none : (pass : PassToken) → KeepsPass 0 no_write pass pass
    keeps-none pass = record {
      table = refl;
      lanes = λ l. refl;
      gone = λ id none. refl;
      budget = omega arith;
      floor = omega arith;
      begun = λ d. omega arith;
      ended = λ d. omega arith;
    }
