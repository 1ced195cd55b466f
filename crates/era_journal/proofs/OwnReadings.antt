-- Draws that their owners' notes have are own draws, and each is one that its owner may make.
use Rattle.std.proofs.Common.{◌≡◌, ℕ, ◌/◌, ◌%◌, ◌<◌, ◌==◌, Bool, true, false, List, [], ◌∷◌, Option, Some, None, refl, ap, sym, ◌∙◌, inl, inr, arith}
use Rattle.std.proofs.lemmas.Bool.{cond_both, eq-eqb, eqb-true, false≢true}
use Rattle.std.proofs.lemmas.Option.{same_Some}
use Rattle.std.proofs.lemmas.List.Elements.{All-nil, All-push}
use Rattle.std.specs.Prelude.{All, length}
use Rattle.era_base.specs.Geometry.{lies_in_one_block, place_at}
use Rattle.era_model.specs.declared.entry.Entry.{Entry}
use Rattle.era_model.specs.declared.event.Event.{Event}
use Rattle.era_model.specs.declared.event.Event.TheVariants.{Go, Done, Cut, Settle, Unsettled, Read, Kept, Status, Refused}
use Rattle.era_model.specs.declared.event.Why.TheVariants.{DataFault, MetaFault, End, Held, NoSnap, Idle, Memory}
use Rattle.era_model.specs.declared.history.Happening.{Happening}
use Rattle.era_model.specs.declared.opening.Opening.{Opening}
use Rattle.era_model.specs.SessionRun.{place_now}
use Rattle.era_gate.specs.ModelLaw.{IsOwnWrite, MeetsGate, stripe_at as gate_stripe}
use Rattle.era_journal.specs.Ranges.{IsRangeOf}
use Rattle.era_journal.proofs.Drews.{AllDrew, Drew}
use Rattle.era_journal.proofs.Meets.{AllMeet}
use Rattle.era_journal.proofs.Ranges.{range-stripe}
use Rattle.era_keeper.specs.OwnEntries.{KeeperMay}
use Rattle.era_notes.specs.Logs.{Draw, drawer_history, logged_history, own_draws}
use Rattle.era_notes.specs.Notes.{Note, entries_of, own_history}
use Rattle.era_notes.specs.OwnDraws.{AreOwnDraws, OwnsDraw, is_of_stripes}
use Rattle.era_notes.specs.Parts.{Part}
use Rattle.era_promise.specs.Owners.{AreOwnersDraws, IsOwnersDraw, IsStripesDraw, stripe_at}
use Rattle.era_promise.proofs.OwnersDraws.{at-log}
use Rattle.era_stripe.specs.OwnEntries.{AreOwnLegal, OwnMay}

-- the writes of a stripe are to its own blocks
own-write : (tells : Bool) (opening : Opening) (stripe : ℕ) (part : Part) (h : List Happening) (event : Event) → IsRangeOf opening stripe part → OwnMay tells part stripe h event → IsOwnWrite (gate_stripe opening) stripe event
own-write tells opening stripe part h (Go id block era first bytes) range may = range-stripe opening stripe part block range may.of_part
own-write tells opening stripe part h event range may = tt

pub own-writes : (tells : Bool) (opening : Opening) (stripe : ℕ) (part : Part) (notes : List Note) → IsRangeOf opening stripe part → AreOwnLegal tells part stripe opening notes
    → All (λ (entry : Entry). IsOwnWrite (gate_stripe opening) stripe entry.event) (entries_of notes)
own-writes tells opening stripe part [] range legal = All-nil (λ (entry : Entry). IsOwnWrite (gate_stripe opening) stripe entry.event)
own-writes tells opening stripe part (note ∷ earlier) range legal =
    All-push (λ (entry : Entry). IsOwnWrite (gate_stripe opening) stripe entry.event) (entries_of earlier) note.entry
    (own-writes tells opening stripe part earlier range legal.1) (own-write tells opening stripe part (own_history opening earlier) note.entry.event range legal.0)

-- the block of a read
block-at : (sectors size sector count block first : ℕ) → place_at sectors size sector count ≡ Some (block, first) → sector / size ≡ block
block-at sectors size sector count block first is =
    cond_both (lies_in_one_block sectors size sector count) (Some (sector / size, sector % size)) None (λ (found : Option (ℕ × ℕ)). found ≡ Some (block, first) → sector / size ≡ block)
    (λ lies same. ap (λ (place : ℕ × ℕ). place.0) (same_Some (sector / size, sector % size) (block, first) same)) (λ out never. absurd (cc)) is

pub read-block : (opening : Opening) (log : List Draw) (sector count block first : ℕ) → place_now (logged_history opening log) sector count ≡ Some (block, first) → sector / opening.geometry.block_sectors ≡ block
read-block opening log sector count block first is =
    block-at opening.geometry.sectors opening.geometry.block_sectors sector count block first
    (sym (at-log None (λ (o : Opening). place_at o.geometry.sectors o.geometry.block_sectors sector count) opening log) ∙ is)

-- own draws
stripe-owns : (tells : Bool) (opening : Opening) (stripe : ℕ) (part : Part) (own whole : List Happening) (event : Event) → IsRangeOf opening stripe part → OwnMay tells part stripe own event → MeetsGate whole event
    → OwnsDraw (stripe_at opening) stripe own whole event
stripe-owns tells opening stripe part own whole (Go id block era first bytes) range may meets = (range-stripe opening stripe part block range may.of_part, meets.once)
stripe-owns tells opening stripe part own whole (Done id) range may meets = may
stripe-owns tells opening stripe part own whole (Cut id faults) range may meets = may
stripe-owns tells opening stripe part own whole (Settle by cut bytes) range may meets = may.pending
stripe-owns tells opening stripe part own whole event range may meets = tt

keeper-owns : (drawer_of : ℕ → ℕ) (drawer : ℕ) (own whole : List Happening) (event : Event) → KeeperMay own event → OwnsDraw drawer_of drawer own whole event
keeper-owns drawer_of drawer own whole (Go id block era first bytes) may = absurd may
keeper-owns drawer_of drawer own whole (Done id) may = absurd may
keeper-owns drawer_of drawer own whole (Cut id faults) may = absurd may
keeper-owns drawer_of drawer own whole (Settle by cut bytes) may = absurd may
keeper-owns drawer_of drawer own whole event may = tt

owns : (tells : Bool) (opening : Opening) (drawer : ℕ) (earlier : List Draw) (event : Event) → Drew tells opening drawer earlier event → MeetsGate (logged_history opening earlier) event
    → OwnsDraw (stripe_at opening) drawer (drawer_history opening drawer earlier) (logged_history opening earlier) event
owns tells opening drawer earlier event (inl by) meets = stripe-owns tells opening drawer by.part (drawer_history opening drawer earlier) (logged_history opening earlier) event by.range by.may meets
owns tells opening drawer earlier event (inr by) meets = keeper-owns (stripe_at opening) drawer (drawer_history opening drawer earlier) (logged_history opening earlier) event by.may

pub all-own : (tells : Bool) (opening : Opening) (log : List Draw) → AllDrew tells opening log → AllMeet opening log → AreOwnDraws opening (stripe_at opening) log
all-own tells opening [] drew meet = tt
all-own tells opening (draw ∷ earlier) drew meet = (owns tells opening draw.drawer earlier draw.event drew.0 meet.0, all-own tells opening earlier drew.1 meet.1)

-- draws of owners
stripe-may : (tells : Bool) (opening : Opening) (stripe : ℕ) (part : Part) (earlier : List Draw) (event : Event) → IsRangeOf opening stripe part → OwnMay tells part stripe (drawer_history opening stripe earlier) event
    → IsStripesDraw opening stripe (drawer_history opening stripe earlier) event
stripe-may tells opening stripe part earlier (Go id block era first bytes) range may = refl
stripe-may tells opening stripe part earlier (Done id) range may = refl
stripe-may tells opening stripe part earlier (Cut id faults) range may = refl
stripe-may tells opening stripe part earlier (Settle by cut bytes) range may = refl
stripe-may tells opening stripe part earlier (Unsettled by cut faults) range may = may
stripe-may tells opening stripe part earlier (Read id sector bytes) range may =
    ap (stripe_at opening) (read-block opening (own_draws stripe earlier) sector (length bytes / 512) may.block may.first may.place) ∙ range-stripe opening stripe part may.block range may.of_part
stripe-may tells opening stripe part earlier (Refused id kind (DataFault other count)) range may = may
stripe-may tells opening stripe part earlier (Refused id kind (MetaFault count)) range may = absurd may
stripe-may tells opening stripe part earlier (Refused id kind End) range may = absurd may
stripe-may tells opening stripe part earlier (Refused id kind (Held block)) range may = absurd may
stripe-may tells opening stripe part earlier (Refused id kind NoSnap) range may = absurd may
stripe-may tells opening stripe part earlier (Refused id kind Idle) range may = absurd may
stripe-may tells opening stripe part earlier (Refused id kind Memory) range may = absurd may
stripe-may tells opening stripe part earlier event range may = absurd may

keeper-none : (own : List Happening) (event : Event) → KeeperMay own event → is_of_stripes event ≡ false
keeper-none own (Go id block era first bytes) may = absurd may
keeper-none own (Done id) may = absurd may
keeper-none own (Cut id faults) may = absurd may
keeper-none own (Settle by cut bytes) may = absurd may
keeper-none own (Unsettled by cut faults) may = absurd may
keeper-none own (Read id sector bytes) may = absurd may
keeper-none own (Kept id inside) may = refl
keeper-none own (Status id used total era held) may = refl
keeper-none own (Refused id kind (DataFault stripe count)) may = absurd may
keeper-none own (Refused id kind (MetaFault count)) may = refl
keeper-none own (Refused id kind End) may = refl
keeper-none own (Refused id kind (Held block)) may = refl
keeper-none own (Refused id kind NoSnap) may = refl
keeper-none own (Refused id kind Idle) may = refl
keeper-none own (Refused id kind Memory) may = refl
keeper-none own event may = refl

-- a stripe isn't the keeper
pub stripe-apart : (stripe keeper : ℕ) → stripe < keeper → (stripe == keeper) ≡ true → ⊥
stripe-apart stripe keeper low is = let same = eqb-true stripe keeper is in omega (arith, low, same)

owner-may : (tells : Bool) (opening : Opening) (drawer : ℕ) (earlier : List Draw) (event : Event) → Drew tells opening drawer earlier event
    → IsOwnersDraw opening.stripes opening drawer (drawer_history opening drawer earlier) event
owner-may tells opening drawer earlier event (inl by) = record {
  keepers = λ is. absurd (stripe-apart drawer opening.stripes by.low is);
  stripes = λ is. stripe-may tells opening drawer by.part earlier event by.range by.may;
}
owner-may tells opening drawer earlier event (inr by) = record {
  keepers = λ is. keeper-none (drawer_history opening drawer earlier) event by.may;
  stripes = λ is. absurd (false≢true (sym is ∙ eq-eqb drawer opening.stripes by.last));
}

pub all-owners : (tells : Bool) (opening : Opening) (log : List Draw) → AllDrew tells opening log → AreOwnersDraws opening.stripes opening log
all-owners tells opening [] drew = tt
all-owners tells opening (draw ∷ earlier) drew = (owner-may tells opening draw.drawer earlier draw.event drew.0, all-owners tells opening earlier drew.1)
