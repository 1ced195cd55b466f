-- A session that was begun over metadata and parts fits together, and stands in the opening of both.
use Rattle.std.proofs.Common.{◌≡◌, ℕ, zero, suc, ◌+◌, ◌-◌, ◌*◌, ◌<◌, Bool, true, false, List, length, min, Option, Some, None, slice_get, refl, sym, ap, ◌∙◌, subst, arith, inl, inr}
use Rattle.std.specs.Prelude.{is_some, unwrap_or, if◌then◌else◌}
use Rattle.std.proofs.lemmas.Bool.{false≢true}
use Rattle.std.proofs.lemmas.List.{map-id}
use Rattle.std.proofs.lemmas.Option.{slice_get_within}
use Rattle.era_base.specs.Flags.{tabulate}
use Rattle.era_base.specs.Geometry.{blocks_of, stripe_blocks}
use Rattle.era_base.specs.declared.disk.Disk.{Ghosts}
use Rattle.era_base.specs.declared.geometry.Geometry.{Geometry}
use Rattle.era_gate.specs.Calls.{AreStripeSeats, StripeToken, TableId, has_lane, new_pass, new_seat, plan_of}
use Rattle.era_gate.specs.Parts.{new_lane}
use Rattle.era_gate.specs.Requests.{LanesAskForMarks}
use Rattle.era_gate.specs.declared.parts.PassPart.{PassPart}
use Rattle.era_gate.specs.declared.plan.Plan.{Plan}
use Rattle.era_keeper.specs.Keepers.{IsOpenedOver, KeeperFits, KeeperStands, comes_back}
use Rattle.era_meta.specs.Held.{snapshot_marks}
use Rattle.era_meta.specs.InMemory.{IsAheadOf, meaning_in}
use Rattle.era_meta.specs.Meaning.{Meaning}
use Rattle.era_meta.specs.Starting.{IsBegun}
use Rattle.era_meta.specs.declared.metadata.Meta.{Meta}
use Rattle.era_meta.specs.declared.snapshot.Snapshot.{Snapshot}
use Rattle.era_model.specs.Legal.{IsOpening}
use Rattle.era_model.specs.Marks.{BlockMarks}
use Rattle.era_model.specs.Validity.{AreValidMarks, IsValidSnapshot}
use Rattle.era_stripe.specs.Stripes.{IsNewSeat}
use Rattle.era_stripe.specs.declared.cut_write.CutWrite.{CutWrite}
use Rattle.era_stripe.specs.declared.stripe.Stripe.{Stripe}
use Rattle.era_session.specs.Openings.{AreClean, AreNewSeats, AreParts, AreStripesOver, IsBegunOver, IsStripeOver, opening_of, origin_bytes, part_blocks}
use Rattle.era_session.specs.Sessions.{AreSharedOut, HasRoomToEnd, IsStripeOf, SessionFits, SessionStands, session_blocks}
use Rattle.era_session.specs.declared.session.Session.{Session}
use Rattle.era_session.proofs.ListsInOrder.{is-there, length-tabulated, maps-same, tabulated}
use Rattle.era_session.proofs.StripesBegun.{stripe-holds, stripe-part}
use Rattle.era_session.proofs.SyncedParts.{IsWholeDisk}

-- what a session was begun with
pub record WasBegun {D : Type 0} (disk : Ghosts D) (sizes : Geometry) (parts : List D) (session : Session D) : Type 0 where
  pub are : AreParts disk sizes parts
  pub old : D
  pub begun : IsBegun disk sizes old session.keeper.meta
  pub geometry : session.geometry ≡ sizes
  pub each : session.each ≡ part_blocks sizes (length parts)
  pub plan : session.gate.plan ≡ plan_of sizes session.keeper.meta.marks.era (length parts)
  pub keeper : KeeperFits disk session.keeper
  pub tables : (session.keeper.seat.table ≡ session.gate.table) × (session.pass.table ≡ session.gate.table)
  pub pass : session.pass.part ≡ new_pass
  pub lanes : (l : ℕ) → l < 65 → has_lane l session.pass.part.lanes ≡ true
  pub seats : List StripeToken
  pub gated : AreStripeSeats session.gate.table seats (length parts)
  pub over : AreStripesOver disk sizes session.each (length parts) parts seats session.stripes.items
  pub ending : HasRoomToEnd session

seat-at : (table : TableId) (seats : List StripeToken) (count k : ℕ) (seat : StripeToken) → AreStripeSeats table seats count → slice_get seats k ≡ Some seat → seat ≡ new_seat table k
seat-at table seats count k seat are at =
    let here : 0 + k ≡ k = omega arith in
    tabulated 0 count k (new_seat table) seat (subst (λ (all : List StripeToken). slice_get all k ≡ Some seat) are at) ∙ ap (λ (n : ℕ). new_seat table n) here

-- the seats of a gate are new ones
pub new-seats : (table : TableId) (seats : List StripeToken) (count : ℕ) → AreStripeSeats table seats count → AreNewSeats seats
new-seats table seats count are k seat at =
    let is : seat ≡ new_seat table k = seat-at table seats count k seat are at in
    subst (λ (s : StripeToken). IsNewSeat s.part k) (sym is) (record { number = refl; outside = refl; idle = refl; none = refl })

pub count-seats : (table : TableId) (seats : List StripeToken) (count : ℕ) → AreStripeSeats table seats count → length seats ≡ count
count-seats table seats count are = ap length are ∙ length-tabulated 0 count (new_seat table)

same-blocks : {D : Type 0} (session : Session D) (sizes : Geometry) → session.geometry ≡ sizes → session_blocks session ≡ blocks_of sizes.sectors sizes.block_sectors
same-blocks session sizes is = ap (λ (g : Geometry). blocks_of g.sectors g.block_sectors) is

-- a stripe that is outside has no cut write
uncut-outside : (cut : Option CutWrite) → false ≡ is_some cut → cut ≡ None
uncut-outside None is = refl
uncut-outside (Some cut) is = absurd (false≢true is)

-- a stripe of the session, with its part and its seat
pub record FoundOver {D : Type 0} (disk : Ghosts D) (sizes : Geometry) (parts : List D) (session : Session D) (k : ℕ) (stripe : Stripe D) : Type 0 where
  pub part : D
  pub seat : StripeToken
  pub found : slice_get parts k ≡ Some part
  pub behind : seat ≡ new_seat session.gate.table k
  pub is : IsStripeOver disk sizes session.each k part seat stripe

pub found-over : {D : Type 0} (disk : Ghosts D) (sizes : Geometry) (parts : List D) (session : Session D) (k : ℕ) (stripe : Stripe D) → WasBegun disk sizes parts session
    → slice_get session.stripes.items k ≡ Some stripe → FoundOver disk sizes parts session k stripe
found-over disk sizes parts session k stripe was at =
    let low : k < length parts = (let within = slice_get_within session.stripes.items k stripe at in omega (arith, within, was.over.count)) in
    let count = count-seats session.gate.table was.seats (length parts) was.gated in
    let part = is-there parts k low in
    let seat = is-there was.seats k (omega (arith, low, count)) in
    record {
      part = part.0;
      seat = seat.0;
      found = part.1;
      behind = seat-at session.gate.table was.seats (length parts) k seat.0 was.gated seat.1;
      is = was.over.stripe k part.0 seat.0 stripe part.1 seat.1 at;
    }

stripe-of : {D : Type 0} (disk : Ghosts D) (sizes : Geometry) (parts : List D) (session : Session D) (k : ℕ) (stripe : Stripe D) → session.geometry ≡ sizes → FoundOver disk sizes parts session k stripe
    → IsStripeOf disk session k stripe
stripe-of disk sizes parts session k stripe geometry found = record {
  fits = found.is.fits;
  rest = found.is.rest;
  index = found.is.index;
  geometry = found.is.geometry ∙ sym geometry;
  first = found.is.first;
  blocks = found.is.blocks ∙ ap (λ n. min session.each (n - k * session.each)) (sym (same-blocks session sizes geometry));
  table = ap (λ (s : StripeToken). s.table) (found.is.behind ∙ found.behind);
}

shared-out : {D : Type 0} (disk : Ghosts D) (sizes : Geometry) (parts : List D) (session : Session D) → WasBegun disk sizes parts session → AreSharedOut session
shared-out disk sizes parts session was =
    let count : session.gate.plan.stripes ≡ length parts = ap (λ (p : Plan). p.stripes) was.plan in
    let blocks = same-blocks session sizes was.geometry in
    record {
      any = omega (arith, count, was.are.split.any);
      stripes = was.over.count ∙ sym count;
      few = omega (arith, count, was.are.split.few);
      each = was.each ∙ ap (λ n. stripe_blocks n (length parts)) (sym blocks) ∙ ap (λ n. stripe_blocks (session_blocks session) n) (sym count);
      some = λ k low. rw (was.each, blocks) (was.are.split.some k (omega (arith, low, count)));
    }

-- lanes without receipts have no marks
new-asked : (first count : ℕ) → LanesAskForMarks (tabulate first count new_lane)
new-asked first zero = tt
new-asked first (suc count) = (tt, new-asked (first + 1) count)

pub begun-fits : {D : Type 0} (disk : Ghosts D) (sizes : Geometry) (parts : List D) (session : Session D) → WasBegun disk sizes parts session → SessionFits disk session
begun-fits disk sizes parts session was =
    let blocks = same-blocks session sizes was.geometry in
    let fit = was.begun.standing.fit in
    record {
      stripes = λ k stripe at. stripe-of disk sizes parts session k stripe was.geometry (found-over disk sizes parts session k stripe was at);
      keeper = was.keeper;
      tables = was.tables;
      lanes = was.lanes;
      asked = subst (λ (pass : PassPart). LanesAskForMarks pass.lanes) (sym was.pass) (new-asked 0 65);
      blocks = ap (λ (p : Plan). p.blocks) was.plan ∙ sym blocks;
      marks = ap (λ n. blocks_of n session.keeper.meta.marks.block_sectors) (sym fit.sectors ∙ was.begun.geometry.0)
          ∙ ap (λ n. blocks_of sizes.sectors n) (sym fit.block_sectors ∙ was.begun.geometry.1) ∙ sym blocks;
      shared = shared-out disk sizes parts session was;
      ending = was.ending;
    }

pub begun-over : {D : Type 0} (disk : Ghosts D) (sizes : Geometry) (parts : List D) (session : Session D) → WasBegun disk sizes parts session → IsBegunOver sizes session.keeper.meta parts session
begun-over {D} disk sizes parts session was = record {
  meta = refl;
  disks = maps-same (λ (stripe : Stripe D). stripe.disk) (λ (part : D). part) session.stripes.items parts was.over.count
      (λ k stripe part at at'.
      let found = found-over disk sizes parts session k stripe was at in
      found.is.device ∙ ap (λ (o : Option D). unwrap_or o part) (sym found.found ∙ at'))
      ∙ map-id parts;
  geometry = was.geometry;
  plan = was.plan;
  pass = was.pass;
  uncut = λ k stripe at.
      let found = found-over disk sizes parts session k stripe was at in
      uncut-outside stripe.cut (sym (ap (λ (s : StripeToken). s.part.state.inside) (found.is.behind ∙ found.behind)) ∙ found.is.rest);
}

snapshot-valid : (snapshot : Snapshot) → AreValidMarks snapshot.marks → IsValidSnapshot (snapshot_marks snapshot)
snapshot-valid snapshot valid = when snapshot.is_held
  where
    when : (held : Bool) → IsValidSnapshot (if held then Some snapshot.marks else None)
    when true = valid
    when false = tt

pub begun-opening : {D : Type 0} (disk : Ghosts D) (sizes : Geometry) (parts : List D) (session : Session D) → WasBegun disk sizes parts session → AreValidMarks session.keeper.meta.marks
    → AreValidMarks session.keeper.meta.snapshot.marks → IsOpening (opening_of disk parts session)
begun-opening disk sizes parts session was valid held =
    let fit = was.begun.standing.fit in
    let count : session.gate.plan.stripes ≡ length parts = ap (λ (p : Plan). p.stripes) was.plan in
    record {
      valid = valid;
      sectors = sym fit.sectors ∙ was.begun.geometry.0 ∙ ap (λ (g : Geometry). g.sectors) (sym was.geometry);
      block_sectors = sym fit.block_sectors ∙ was.begun.geometry.1 ∙ ap (λ (g : Geometry). g.block_sectors) (sym was.geometry);
      era = ap (λ (p : Plan). p.era) was.plan;
      held = snapshot-valid session.keeper.meta.snapshot held;
      some_stripe = omega (arith, count, was.are.split.any);
      few_stripes = omega (arith, count, was.are.split.few);
    }

abbrev pub meaning-with : BlockMarks → Option BlockMarks → Meaning
meaning-with marks held = record { marks = marks; held = held }

meaning-is : (meaning : Meaning) (marks : BlockMarks) (held : Option BlockMarks) → marks ≡ meaning.marks → meaning.held ≡ held → meaning ≡ meaning-with marks held
meaning-is meaning marks held is is' = ap (λ (m : BlockMarks). meaning-with m meaning.held) (sym is) ∙ ap (λ (h : Option BlockMarks). meaning-with marks h) is'

pub begun-alone : {D : Type 0} (disk : Ghosts D) (sizes : Geometry) (old : D) (meta : Meta D) → IsBegun disk sizes old meta → disk.tells ≡ true → (meaning : Meaning) → comes_back disk meta meaning
    → meaning ≡ meaning-with meta.marks (snapshot_marks meta.snapshot)
begun-alone disk sizes old meta begun told meaning (inl is) =
    let now = (disk.history meta.slots.disk).now in
    let stands = begun.standing.stands told in
    let says : meta.marks ≡ (meaning_in now meta).marks = subst (λ flag. IsAheadOf flag meta.marks (meaning_in now meta).marks) begun.stored stands.says in
    is ∙ meaning-is (meaning_in now meta) meta.marks (snapshot_marks meta.snapshot) says stands.held
begun-alone disk sizes old meta begun told meaning (inr left) = absurd (begun.alone told left.0 meaning left.1)

pub begun-opened : {D : Type 0} (disk : Ghosts D) (sizes : Geometry) (parts : List D) (session : Session D) → WasBegun disk sizes parts session → IsOpening (opening_of disk parts session)
    → IsOpenedOver disk (opening_of disk parts session) session.keeper.meta
begun-opened disk sizes parts session was opens = record {
  opens = opens;
  marks = refl;
  held = refl;
  total = refl;
  alone = λ told meaning back. begun-alone disk sizes was.old session.keeper.meta was.begun told meaning back;
}

no-contents : {D : Type 0} (disk : Ghosts D) (parts : List D) → disk.tells ≡ false → origin_bytes disk parts ≡ None
no-contents disk parts untold = rw untold refl

pub begun-stands : {D : Type 0} (disk : Ghosts D) (sizes : Geometry) (parts : List D) (session : Session D) → WasBegun disk sizes parts session → IsOpening (opening_of disk parts session)
    → KeeperStands disk (opening_of disk parts session) session.keeper → ((part : D) → IsWholeDisk disk part) → AreClean disk parts → SessionStands disk (opening_of disk parts session) session
begun-stands {D} disk sizes parts session was opens keeper whole clean =
    let opening = opening_of disk parts session in
    let sectors : opening.geometry.sectors ≡ sizes.sectors = ap (λ (g : Geometry). g.sectors) was.geometry in
    let size : opening.geometry.block_sectors ≡ sizes.block_sectors = ap (λ (g : Geometry). g.block_sectors) was.geometry in
    record {
      opens = opens;
      sectors = refl;
      block_sectors = refl;
      era = refl;
      count = refl;
      keeper = keeper;
      stripes = λ k stripe at.
          let found = found-over disk sizes parts session k stripe was at in
          let is = subst (λ each. IsStripeOver disk sizes each k found.part found.seat stripe) was.each found.is in
          is.stands opening (stripe-part disk sizes parts k found.part found.seat stripe opening was.are found.found is sectors size)
          (λ told. stripe-holds disk sizes parts k found.part found.seat stripe opening was.are whole told found.found (clean k found.part found.found told) is size refl);
      contents = λ untold. no-contents disk parts untold;
    }
