-- Draws that their owners' notes have meet what their owners tell, and what is told beside.
use Rattle.std.proofs.Common.{◌≡◌, ℕ, ◌<◌, Bool, true, false, List, [], ◌∷◌, Option, None, Some, refl, ap, sym, ◌∙◌, subst, inl, inr, arith}
use Rattle.std.specs.Prelude.{is_some}
use Rattle.std.proofs.lemmas.Bool.{false≢true, ne_eqb}
use Rattle.era_base.specs.Faults.{Rose}
use Rattle.era_model.specs.declared.event.Event.{Event}
use Rattle.era_model.specs.declared.event.Event.TheVariants.{Tried, Mark, Go, Done, Cut, Settle, Unsettled, Read, Roll, Kept, Snap, Dropped, Digest, List as ListEvent, Status, Refused}
use Rattle.era_model.specs.declared.event.Why.TheVariants.{DataFault, MetaFault, End, Held, NoSnap, Idle, Memory}
use Rattle.era_model.specs.declared.history.Happening.{Happening}
use Rattle.era_model.specs.declared.opening.Opening.{Opening}
use Rattle.era_model.specs.Counts.{CountAscends, PartOf}
use Rattle.era_gate.specs.ModelLaw.{MeetsGate}
use Rattle.era_journal.specs.Requests.{FollowsRequest, MarksFollowRequests}
use Rattle.era_journal.proofs.Drews.{AllDrew, Drew, StripeDrew}
use Rattle.era_journal.proofs.Meets.{AllMeet}
use Rattle.era_journal.proofs.Ranges.{range-stripe}
use Rattle.era_keeper.specs.OwnEntries.{KeeperMay}
use Rattle.era_notes.specs.Logs.{Draw, drawer_history, logged_history, noted_entries, own_draws, own_entries}
use Rattle.era_notes.specs.Notes.{CountsRise, Note, TellsRisen, last_faults, told_count}
use Rattle.era_notes.specs.OwnDraws.{AreOwnDraws}
use Rattle.era_promise.specs.OwnConditions.{AreToldDraws, IsToldBeside, OwnerTells}
use Rattle.era_promise.specs.Owners.{AreDrawnByOwners, AreOwnersDraws, disk_of, stripe_at}
use Rattle.era_promise.proofs.OwnersDraws.{at-log}

-- The laws that this takes.
pub record Laws : Type 0 where
  pub disks : (keeper : ℕ) (opening : Opening) (log : List Draw) → AreOwnDraws opening (stripe_at opening) log → AreOwnersDraws keeper opening log → AreDrawnByOwners keeper opening log
  pub counts : (keeper : ℕ) (opening : Opening) (log : List Draw) (drawer least faults count : ℕ) (notes : List Note) → AreDrawnByOwners keeper opening log → noted_entries notes ≡ own_entries drawer log → CountsRise least faults notes
      → Rose (last_faults least notes) count → CountAscends (logged_history opening log) (disk_of keeper drawer) count

-- a count that a stripe tells
ascends : Laws → (tells : Bool) (opening : Opening) (stripe : ℕ) (earlier : List Draw) (event : Event) (count : ℕ) → AreDrawnByOwners opening.stripes opening earlier → StripeDrew tells opening stripe earlier event
    → told_count event ≡ Some count → CountAscends (logged_history opening earlier) (PartOf stripe) count
ascends laws tells opening stripe earlier event count owners by is =
    let rose : Rose (last_faults by.least by.notes) count = (subst (λ told. TellsRisen told (last_faults by.least by.notes) by.faults) is by.told).1 in
    let disk : disk_of opening.stripes stripe ≡ PartOf stripe = disk-part stripe opening.stripes by.low in
    subst (λ d. CountAscends (logged_history opening earlier) d count) disk
    (laws.counts opening.stripes opening earlier stripe by.least by.faults count by.notes owners by.own by.counts rose)
  where
    disk-part : (stripe keeper : ℕ) → stripe < keeper → disk_of keeper stripe ≡ PartOf stripe
    disk-part stripe keeper low = rw (ne_eqb stripe keeper (λ same. omega (arith, low, same))) refl

-- contents that the opening tells are those of disks that tell
knows-tells : (tells : Bool) (contents : Option (List ℕ)) → (tells ≡ false → contents ≡ None) → is_some contents ≡ true → tells ≡ true
knows-tells true contents none knows = refl
knows-tells false contents none knows = absurd (false≢true (ap is_some (sym (none refl)) ∙ knows))

-- a stripe tells
stripe-tells : Laws → (tells : Bool) (opening : Opening) (stripe : ℕ) (earlier : List Draw) (event : Event) → (tells ≡ false → opening.contents.bytes ≡ None) → AreDrawnByOwners opening.stripes opening earlier → StripeDrew tells opening stripe earlier event
    → OwnerTells opening stripe (drawer_history opening stripe earlier) (logged_history opening earlier) event
stripe-tells laws tells opening stripe earlier (Go id block era first bytes) none owners by = record { of_origin = by.may.left.of_origin; whole = by.may.left.whole; place = by.may.left.place }
stripe-tells laws tells opening stripe earlier (Done id) none owners by = record { writing = by.may }
stripe-tells laws tells opening stripe earlier (Cut id faults) none owners by = (record { writing = by.may }, ascends laws tells opening stripe earlier (Cut id faults) faults owners by refl)
stripe-tells laws tells opening stripe earlier (Settle on cut bytes) none owners by = by.may
stripe-tells laws tells opening stripe earlier (Unsettled on cut faults) none owners by = (by.may, ascends laws tells opening stripe earlier (Unsettled on cut faults) faults owners by refl)
stripe-tells laws tells opening stripe earlier (Read id sector bytes) none owners by = record {
  may = record {
    whole = by.may.whole;
    block = by.may.block;
    first = by.may.first;
    place = by.may.place;
    same = λ knows. by.may.same (knows-tells tells opening.contents.bytes none
        (sym (at-log false (λ (o : Opening). is_some o.contents.bytes) opening (own_draws stripe earlier)) ∙ knows));
  };
  of = range-stripe opening stripe by.part by.may.block by.range by.may.of_part;
}
stripe-tells laws tells opening stripe earlier (Refused id kind (DataFault other count)) none owners by =
    subst (λ s. CountAscends (logged_history opening earlier) (PartOf s) count) (sym by.may) (ascends laws tells opening stripe earlier (Refused id kind (DataFault other count)) count owners by refl)
stripe-tells laws tells opening stripe earlier (Refused id kind (MetaFault count)) none owners by = absurd by.may
stripe-tells laws tells opening stripe earlier (Refused id kind End) none owners by = absurd by.may
stripe-tells laws tells opening stripe earlier (Refused id kind (Held block)) none owners by = absurd by.may
stripe-tells laws tells opening stripe earlier (Refused id kind NoSnap) none owners by = absurd by.may
stripe-tells laws tells opening stripe earlier (Refused id kind Idle) none owners by = absurd by.may
stripe-tells laws tells opening stripe earlier (Refused id kind Memory) none owners by = absurd by.may
stripe-tells laws tells opening stripe earlier event none owners by = absurd by.may

-- the keeper tells
keeper-tells : (opening : Opening) (drawer : ℕ) (own whole : List Happening) (event : Event) → KeeperMay own event → OwnerTells opening drawer own whole event
keeper-tells opening drawer own whole (Mark id block era) may = may.of_origin
keeper-tells opening drawer own whole (Go id block era first bytes) may = absurd may
keeper-tells opening drawer own whole (Done id) may = absurd may
keeper-tells opening drawer own whole (Cut id faults) may = absurd may
keeper-tells opening drawer own whole (Settle by cut bytes) may = absurd may
keeper-tells opening drawer own whole (Unsettled by cut faults) may = absurd may
keeper-tells opening drawer own whole (Read id sector bytes) may = absurd may
keeper-tells opening drawer own whole (Roll id era) may = tt
keeper-tells opening drawer own whole (Kept id inside) may = tt
keeper-tells opening drawer own whole (Status id used total era held) may = may
keeper-tells opening drawer own whole (Refused id kind (DataFault stripe count)) may = absurd may
keeper-tells opening drawer own whole (Refused id kind (MetaFault count)) may = may
keeper-tells opening drawer own whole (Refused id kind End) may = may
keeper-tells opening drawer own whole (Refused id kind (Held block)) may = may
keeper-tells opening drawer own whole (Refused id kind NoSnap) may = may
keeper-tells opening drawer own whole (Refused id kind Idle) may = may
keeper-tells opening drawer own whole (Refused id kind Memory) may = may
keeper-tells opening drawer own whole (Tried id block era) may = may
keeper-tells opening drawer own whole (Snap id block) may = may
keeper-tells opening drawer own whole (Dropped id) may = may
keeper-tells opening drawer own whole (Digest id era page) may = may
keeper-tells opening drawer own whole (ListEvent id since snap blocks) may = may

owner-tells : Laws → (tells : Bool) (opening : Opening) (drawer : ℕ) (earlier : List Draw) (event : Event) → (tells ≡ false → opening.contents.bytes ≡ None) → AreDrawnByOwners opening.stripes opening earlier → Drew tells opening drawer earlier event
    → OwnerTells opening drawer (drawer_history opening drawer earlier) (logged_history opening earlier) event
owner-tells laws tells opening drawer earlier event none owners (inl by) = stripe-tells laws tells opening drawer earlier event none owners by
owner-tells laws tells opening drawer earlier event none owners (inr by) = keeper-tells opening drawer (drawer_history opening drawer earlier) (logged_history opening earlier) event by.may

-- what is told beside
told-beside : (h : List Happening) (event : Event) → MeetsGate h event → FollowsRequest h event → IsToldBeside h event
told-beside h (Mark id block era) meets follows = record { tried = follows; present = meets }
told-beside h (Go id block era first bytes) meets follows = record { marked = meets.marked; present = meets.present; alone = meets.alone; once = meets.once }
told-beside h (Roll id era) meets follows = meets
told-beside h (Kept id inside) meets follows = meets
told-beside h event meets follows = tt

pub all-told : Laws → (tells : Bool) (opening : Opening) (log : List Draw) → (tells ≡ false → opening.contents.bytes ≡ None) → AreOwnDraws opening (stripe_at opening) log → AreOwnersDraws opening.stripes opening log → AllDrew tells opening log → AllMeet opening log → MarksFollowRequests opening log
    → AreToldDraws opening log
all-told laws tells opening [] none owns owners drew meet follow = tt
all-told laws tells opening (draw ∷ earlier) none owns owners drew meet follow = (
  owner-tells laws tells opening draw.drawer earlier draw.event none (laws.disks opening.stripes opening earlier owns.1 owners.1) drew.0,
  told-beside (logged_history opening earlier) draw.event meet.0 follow.0,
  all-told laws tells opening earlier none owns.1 owners.1 drew.1 meet.1 follow.1,
)
