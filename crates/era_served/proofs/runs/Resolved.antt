-- The resolutions of a checkpoint: at most one for each stripe.
use Rattle.std.proofs.Common.{◌≡◌, ℕ, zero, suc, ◌<◌, List, ◌∷◌, ◌++◌, Option, Some, None, Result, Ok, Err, refl, sym, ap, ◌∙◌, subst, arith, []}
use Rattle.std.specs.Prelude.{unwrap_or}
use Rattle.era_base.specs.declared.disk.Disk.{Ghosts}
use Rattle.era_base.specs.declared.ids.CmdId.{CmdId}
use Rattle.era_model.specs.CommandEvents.{AreResolutions, LeavesStripe, written_stripe}
use Rattle.era_model.specs.declared.event.Event.{Event}
use Rattle.era_model.specs.declared.event.Event.TheVariants.{Settle, Unsettled}
use Rattle.era_model.specs.declared.history.Happening.{Happening}
use Rattle.era_served.proofs.runs.Cuts.{KnowsCuts, cuts-left, settle-left}
use Rattle.era_session.specs.Checkpoints.{SettledAt, SettledBelow, settling_events}
use Rattle.era_session.specs.declared.session.Session.{Session}
use Rattle.era_stripe.specs.declared.cut_write.CutWrite.{CutWrite}

-- nothing, or one resolution of a write that was issued to the stripe
data OneOf (h : List Happening) (by : CmdId) (stripe : ℕ) : List Event → Type 0 where
  none-of : OneOf h by stripe []
  settled-of : (cut : CmdId) (bytes : List ℕ) → written_stripe h cut ≡ Some stripe → OneOf h by stripe (Settle by cut bytes ∷ [])
  unsettled-of : (cut : CmdId) (count : ℕ) → written_stripe h cut ≡ Some stripe → OneOf h by stripe (Unsettled by cut count ∷ [])

-- resolutions of writes that were issued to stripes below a number
abbrev AreBelow : List Happening → ℕ → List Event → Type 0
AreBelow h k [] = Unit {0}
AreBelow h k (Settle by cut bytes ∷ events) = ((stripe : ℕ) × (written_stripe h cut ≡ Some stripe) × (stripe < k)) × AreBelow h k events
AreBelow h k (Unsettled by cut count ∷ events) = ((stripe : ℕ) × (written_stripe h cut ≡ Some stripe) × (stripe < k)) × AreBelow h k events
AreBelow h k (event ∷ events) = ⊥

apart : (a b : Option ℕ) (low k : ℕ) → a ≡ Some low → low < k → b ≡ Some k → b ≡ a → ⊥
apart a b low k one less two same = (let is : k ≡ low = ap (λ (o : Option ℕ). unwrap_or o 0) (sym two ∙ same ∙ one) in omega (arith, is, less))

leaves-one : (h : List Happening) (by : CmdId) (k low : ℕ) (stripe : Option ℕ) (own : List Event) → stripe ≡ Some low → low < k → OneOf h by k own → LeavesStripe h stripe own
leaves-one h by k low stripe _ is less none-of = tt
leaves-one h by k low stripe _ is less (settled-of cut bytes of) = ((λ same. apart stripe (written_stripe h cut) low k is less of same), tt)
leaves-one h by k low stripe _ is less (unsettled-of cut count of) = ((λ same. apart stripe (written_stripe h cut) low k is less of same), tt)

leaves-both : (h : List Happening) (stripe : Option ℕ) (a b : List Event) → LeavesStripe h stripe a → LeavesStripe h stripe b → LeavesStripe h stripe (a ++ b)
leaves-both h stripe [] b one two = two
leaves-both h stripe (Settle by cut bytes ∷ a) b one two = (one.0, leaves-both h stripe a b one.1 two)
leaves-both h stripe (Unsettled by cut count ∷ a) b one two = (one.0, leaves-both h stripe a b one.1 two)
leaves-both h stripe (event ∷ a) b one two = leaves-both h stripe a b one two

one-resolution : (h : List Happening) (by : CmdId) (k : ℕ) (own : List Event) → OneOf h by k own → AreResolutions h by own × AreBelow h (suc k) own
one-resolution h by k _ none-of = (tt, tt)
one-resolution h by k _ (settled-of cut bytes of) = ((refl, tt, tt), ((k, of, omega arith), tt))
one-resolution h by k _ (unsettled-of cut count of) = ((refl, tt, tt), ((k, of, omega arith), tt))

-- a resolution of the next stripe behind those of the stripes below it
next-resolution : (h : List Happening) (by : CmdId) (k : ℕ) (before own : List Event) → AreResolutions h by before → AreBelow h k before → OneOf h by k own
    → AreResolutions h by (before ++ own) × AreBelow h (suc k) (before ++ own)
next-resolution h by k [] own are below one = one-resolution h by k own one
next-resolution h by k (Settle by' cut bytes ∷ before) own are below one =
    let rest = next-resolution h by k before own are.2 below.1 one in
    let low = below.0 in
    let less = low.2 in (
      (are.0, leaves-both h (written_stripe h cut) before own are.1 (leaves-one h by k low.0 (written_stripe h cut) own low.1 less one), rest.0),
      ((low.0, low.1, omega (arith, less)), rest.1),
    )
next-resolution h by k (Unsettled by' cut count ∷ before) own are below one =
    let rest = next-resolution h by k before own are.2 below.1 one in
    let low = below.0 in
    let less = low.2 in (
      (are.0, leaves-both h (written_stripe h cut) before own are.1 (leaves-one h by k low.0 (written_stripe h cut) own low.1 less one), rest.0),
      ((low.0, low.1, omega (arith, less)), rest.1),
    )
next-resolution h by k (event ∷ before) own are below one = absurd are

one-of : (h : List Happening) (by : CmdId) (k : ℕ) (cut : Option CutWrite) (bytes : List ℕ) (result : Result Unit ℕ) → ((one : CutWrite) → cut ≡ Some one → written_stripe h one.id ≡ Some k) → OneOf h by k (settling_events cut by bytes result)
one-of h by k None bytes result known = none-of
one-of h by k (Some cut) bytes (Ok value) known = settled-of cut.id bytes (known cut refl)
one-of h by k (Some cut) bytes (Err count) known = unsettled-of cut.id count (known cut refl)

-- what a checkpoint did at the stripes below a number
pub record Resolved {D : Type 0} (h : List Happening) (by : CmdId) (k : ℕ) (events : List Event) (new : Session D) : Type 0 where
  pub knows : KnowsCuts h new
  pub are : AreResolutions h by events
  pub below : AreBelow h k events

settled-at : {D : Type 0} (disk : Ghosts D) (h : List Happening) (by : CmdId) (k : ℕ) (events : List Event) (old new : Session D) → SettledAt disk by k events old new → KnowsCuts h old → KnowsCuts h new
settled-at disk h by k events old new at knows =
    cuts-left h k at.after old new knows at.stripes (λ cut is.
    let was = settle-left disk at.stripe.cut by at.did.result at.did.before at.did.settled old.pass at.did.between cut at.did.settling (sym at.did.left.1 ∙ is) in
    ap (λ (id : CmdId). written_stripe h id) was.2 ∙ knows k at.stripe at.found was.0 was.1)

pub resolved-below : {D : Type 0} (disk : Ghosts D) (h : List Happening) (by : CmdId) (k : ℕ) (events : List Event) (old new : Session D) → SettledBelow disk by k events old new → KnowsCuts h old → Resolved h by k events new
resolved-below {D} disk h by zero events old new did knows =
    subst (λ (l : List Event). Resolved h by zero l new) (sym did.1) (record { knows = subst (λ (s : Session D). KnowsCuts h s) (sym did.0) knows; are = tt; below = tt })
resolved-below disk h by (suc k) events old new (between, before, own, below, at, is) knows =
    let first = resolved-below disk h by k before old between below knows in
    let one = subst (OneOf h by k) (sym at.did.events_are) (one-of h by k at.stripe.cut at.did.bytes at.did.result (λ cut has. first.knows k at.stripe at.found cut has)) in
    let both = next-resolution h by k before own first.are first.below one in
    record {
      knows = settled-at disk h by k own between new at first.knows;
      are = subst (AreResolutions h by) (sym is) both.0;
      below = subst (AreBelow h (suc k)) (sym is) both.1;
    }
