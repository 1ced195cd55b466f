-- A write at a stripe of a session: that it may be made there, and what it leaves of the session.
use Rattle.std.proofs.Common.{◌≡◌, ℕ, ◌+◌, ◌*◌, ◌/◌, ◌%◌, ◌<◌, ◌≤◌, Bool, true, false, List, [], ◌++◌, length, Option, Some, None, Result, Ok, Err, slice_get, refl, sym, ap, ap₂, ◌∙◌, subst, arith, inl, inr}
use Rattle.std.specs.Prelude.{is_some}
use Rattle.std.proofs.lemmas.List.{length-append}
use Rattle.std.proofs.lemmas.Nat.{div-add-mod'}
use Rattle.era_base.specs.Flags.{has}
use Rattle.era_base.specs.Geometry.{blocks_of, place_at}
use Rattle.era_base.specs.declared.disk.Disk.{Ghosts}
use Rattle.era_base.specs.declared.geometry.Geometry.{Geometry}
use Rattle.era_base.specs.declared.ids.CmdId.{CmdId}
use Rattle.era_gate.specs.Calls.{KeeperToken, PassToken, StripeToken, has_gone}
use Rattle.era_gate.specs.Passes.{KeepsPass}
use Rattle.era_gate.specs.Requests.{LanesAskForMarks}
use Rattle.era_keeper.specs.Calls.{SameKeeper}
use Rattle.era_keeper.specs.Keepers.{KeeperFits}
use Rattle.era_keeper.specs.declared.keeper.Keeper.{Keeper}
use Rattle.era_meta.specs.declared.metadata.Meta.{Meta}
use Rattle.era_model.specs.Marks.{blocks_of_marks}
use Rattle.era_model.specs.declared.event.Event.{Event}
use Rattle.era_model.specs.declared.opening.Opening.{Opening}
use Rattle.era_model.specs.declared.reply.Answer.{Answer}
use Rattle.era_model.specs.declared.reply.Answer.TheVariants.{Fine, Range, Fault, Found, EraIs, Kept, End, Snap, Held, NoSnap, Digest, Idle, Status, Blocks, Memory}
use Rattle.era_model.specs.declared.reply.Device.TheVariants.{Data as DataDevice, Meta as MetaDevice}
use Rattle.era_notes.specs.Notes.{first_device}
use Rattle.era_notes.specs.Parts.{IsIn, IsPlace, Part}
use Rattle.era_notes.specs.Rooms.{HoldBytes, free_in, last_in}
use Rattle.era_notes.specs.declared.buffers.Buffers.{Buffers}
use Rattle.era_notes.specs.declared.room.TheConstants.{ROOM_ENTRIES}
use Rattle.era_session.specs.AtStripes.{IsAdmitted, IsKeeperAdmitted, WriteDid, WroteAt}
use Rattle.era_session.specs.Desks.{Desk, DeskFits, DeskStands, SameDesk, desk}
use Rattle.era_session.specs.Sessions.{MayCommand, SamePlan, SameSession, SessionFits, SessionStands, session_blocks}
use Rattle.era_session.specs.Writes.{AreWriteEvents, IsFailedMarking, IsSettling, MayWrite, WroteEvents, marking_events}
use Rattle.era_session.specs.declared.session.Session.{Session}
use Rattle.era_session.proofs.AtStripes.{count-left, session-fits, session-same, session-stands, stripe-then, stripes-left, stripes-stand, with-stripe}
use Rattle.era_session.proofs.KeeperAlone.{admitted-same, admitted-stands}
use Rattle.era_session.proofs.Places.{block-in-part, place-divides, place-holds, stripe-of-block}
use Rattle.era_stripe.specs.Calls.{SameStripe}
use Rattle.era_stripe.specs.Results.{write_events}
use Rattle.era_stripe.specs.Stripes.{IsAtRest, StripeFits, StripeStands, StripeView, ViewStands, part_of}
use Rattle.era_stripe.specs.declared.cut_write.CutWrite.{CutWrite}
use Rattle.era_stripe.specs.declared.stripe.Stripe.{Stripe}

-- a stripe with its room is over the same part
pub admitted-stripe : {D : Type 0} (disk : Ghosts D) (old new : Stripe D) → IsAdmitted disk old new → SameStripe disk old new
admitted-stripe {D} disk old new is = record {
  index = ap (λ (v : StripeView). v.index) is.view;
  geometry = ap (λ (v : StripeView). v.geometry) is.view;
  first_block = ap (λ (v : StripeView). v.part.first) is.view;
  blocks = ap (λ (v : StripeView). v.part.blocks) is.view;
  place = ap (λ (d : D). disk.place d) is.device;
  sectors = ap (λ (d : D). disk.sectors d) is.device;
  began = ap first_device is.notes;
  table = ap (λ (s : StripeToken). s.table) is.seat;
}

-- it stands as before
pub admitted-stripe-stands : {D : Type 0} (disk : Ghosts D) (opening : Opening) (old new : Stripe D) → IsAdmitted disk old new → StripeStands disk opening old → StripeStands disk opening new
admitted-stripe-stands disk opening old new is stands = subst (ViewStands disk.tells opening) (sym is.view) stands

-- it is at rest as before
admitted-rests : {D : Type 0} (disk : Ghosts D) (old new : Stripe D) → IsAdmitted disk old new → IsAtRest old → IsAtRest new
admitted-rests disk old new is rest = ap (λ (s : StripeToken). s.part.state.inside) is.seat ∙ rest ∙ ap (λ (cut : Option CutWrite). is_some cut) (sym is.cut)

-- buffers that hold some bytes hold fewer
pub holds-fewer : (count more : ℕ) (room : Option Buffers) → count ≤ more → HoldBytes more room → HoldBytes count room
holds-fewer count more None less holds = absurd holds
holds-fewer count more (Some buffers) less holds = (let a = holds.0 in omega (arith, a, less), let b = holds.1 in omega (arith, b, less))

-- a write may be made at the stripe of its block
pub may-write-at : {D : Type 0} (disk : Ghosts D) (session : Session D) (stripe admitted : Stripe D) (keeper : Keeper D) (id : CmdId) (block first count room : ℕ) → MayCommand disk session id → has_gone id session.pass.part.lanes ≡ false
    → slice_get session.stripes.items (block / session.each) ≡ Some stripe → block < session_blocks session → IsPlace session.geometry block first count → IsAdmitted disk stripe admitted → StripeFits disk admitted
    → ROOM_ENTRIES ≤ free_in admitted.entries → HoldBytes room admitted.room → count ≤ room → IsKeeperAdmitted disk session.keeper keeper → KeeperFits disk keeper → ROOM_ENTRIES ≤ free_in keeper.entries → last_in keeper.entries ≡ []
    → MayWrite disk session.gate (desk admitted keeper session.pass) id block first count
may-write-at {D} disk session stripe admitted keeper id block first count room may once found below place is own free holds enough keeper-is keeper-fits keeper-free undrawn =
    let fits = may.fits in
    let of = fits.stripes (block / session.each) stripe found in
    let same = admitted-stripe disk stripe admitted is in
    let lies : IsIn (part_of stripe) block = block-in-part disk session stripe block (stripe-of-block session block fits.shared below).0 below of in
    record {
      fits = record {
        stripe = own;
        rest = admitted-rests disk stripe admitted is of.rest;
        keeper = keeper-fits;
        seats = (same.table ∙ of.table, ap (λ (s : KeeperToken). s.table) keeper-is.seat ∙ fits.tables.0);
        pass = fits.tables.1;
        blocks = ap (λ (m : Meta D). blocks_of_marks m.marks) keeper-is.meta ∙ fits.marks ∙ sym fits.blocks;
      };
      lane = fits.lanes id.lane may.lane;
      budget = let b = may.budget in omega (arith, b);
      once = once;
      rooms = (free, keeper-free);
      undrawn = (is.last, undrawn);
      of_origin = subst (λ n. block < n) (sym fits.blocks) below;
      hold = record {
        of_part = subst (λ (p : Part). IsIn p block) (ap (λ (v : StripeView). v.part) (sym is.view)) lies;
        place = subst (λ (g : Geometry). IsPlace g block first count) (sym (same.geometry ∙ of.geometry)) place;
        buffers = holds-fewer count room admitted.room enough holds;
      };
    }

-- a resolution draws at most one event, a marking two, and a write two
few-settling : (cut : Option CutWrite) (id : CmdId) (events : List Event) → IsSettling cut id events → length events ≤ 1
few-settling None id events is = rw is (omega arith)
few-settling (Some cut) id events is = rw (is.2) (omega arith)

pub few-marking : (marked : Bool) (id : CmdId) (block era : ℕ) → length (marking_events marked id block era) ≤ 2
few-marking true id block era = omega arith
few-marking false id block era = omega arith

few-failed : (id : CmdId) (block era count : ℕ) (events : List Event) → IsFailedMarking id block era count events → length events ≤ 2
few-failed id block era count events (inl is) = rw is (omega arith)
few-failed id block era count events (inr is) = rw is (omega arith)

few-written : (id : CmdId) (block era first : ℕ) (bytes : List ℕ) (result : Result Unit ℕ) → length (write_events id block era first bytes result) ≤ 2
few-written id block era first bytes (Ok value) = omega arith
few-written id block era first bytes (Err count) = omega arith

few-both : (a b : List Event) (m n : ℕ) → length a ≤ m → length b ≤ n → length (a ++ b) ≤ m + n
few-both a b m n one two = rw (length-append a b) (omega (arith, one, two))

-- a write draws few events
few-wrote : {D : Type 0} (id : CmdId) (block first : ℕ) (bytes : List ℕ) (result : Result Unit ℕ) (old : Desk D) (events : List Event) → WroteEvents id block first bytes result old events → length events ≤ 24
few-wrote id block first bytes result old events are =
    let marks : List Event = marking_events (has old.keeper.meta.marks.current block) id block old.keeper.meta.marks.era in
    let own : List Event = write_events id block are.era first bytes result in
    let front = few-both are.before marks 1 2 (few-settling old.stripe.cut id are.before are.settling) (few-marking (has old.keeper.meta.marks.current block) id block old.keeper.meta.marks.era) in
    let all = few-both (are.before ++ marks) own 3 2 front (few-written id block are.era first bytes result) in
    rw (are.joined) (omega (arith, all))

pub few-events : {D : Type 0} (id : CmdId) (block first : ℕ) (bytes : List ℕ) (answer : Answer) (old : Desk D) (events : List Event) → AreWriteEvents id block first bytes answer old events → length events ≤ 24
few-events id block first bytes Fine old events are = few-wrote id block first bytes (Ok tt) old events are
few-events id block first bytes (Fault DataDevice count) old events (inl are) = rw (are.refused) (omega arith)
few-events id block first bytes (Fault DataDevice count) old events (inr are) = few-wrote id block first bytes (Err count) old events are
few-events id block first bytes (Fault MetaDevice count) old events are =
    let all = few-both are.before are.rest 1 2 (few-settling old.stripe.cut id are.before are.settling) (few-failed id block old.keeper.meta.marks.era count are.rest are.failed) in
    rw (are.joined) (omega (arith, all))
few-events id block first bytes Range old events are = absurd are
few-events id block first bytes (Found found) old events are = absurd are
few-events id block first bytes (EraIs era) old events are = absurd are
few-events id block first bytes (Kept inside) old events are = absurd are
few-events id block first bytes End old events are = absurd are
few-events id block first bytes (Snap held) old events are = absurd are
few-events id block first bytes (Held held) old events are = absurd are
few-events id block first bytes NoSnap old events are = absurd are
few-events id block first bytes (Digest era page) old events are = absurd are
few-events id block first bytes Idle old events are = absurd are
few-events id block first bytes (Status used total era held) old events are = absurd are
few-events id block first bytes (Blocks runs) old events are = absurd are
few-events id block first bytes Memory old events are = absurd are

-- the plan of a session stays where a stripe, the keeper and the pass are others
plan-stays : {D : Type 0} (old : Session D) (k : ℕ) (after : Desk D) → SamePlan old (with-stripe old k after.stripe after.keeper after.pass)
plan-stays old k after = record { gate = refl; geometry = refl; each = refl; seats = refl; parts = refl }

-- the keeper of a command with its room is over the same device
keeper-written : {D : Type 0} (disk : Ghosts D) (old : Session D) (admitted : Stripe D) (keeper : Keeper D) (after : Desk D) → IsKeeperAdmitted disk old.keeper keeper → SameDesk disk (desk admitted keeper old.pass) after → SameKeeper disk old.keeper after.keeper
keeper-written disk old admitted keeper after is same = admitted-same disk old.keeper keeper after.keeper is same.keeper

-- a session fits together behind a command at one of its stripes
pub fits-written : {D : Type 0} (disk : Ghosts D) (drawn : ℕ) (issued : CmdId → Bool) (old : Session D) (k : ℕ) (stripe admitted : Stripe D) (keeper : Keeper D) (after : Desk D) → SessionFits disk old → slice_get old.stripes.items k ≡ Some stripe
    → IsAdmitted disk stripe admitted → IsKeeperAdmitted disk old.keeper keeper → DeskFits disk old.gate after → SameDesk disk (desk admitted keeper old.pass) after → KeepsPass drawn issued old.pass after.pass
    → LanesAskForMarks after.pass.part.lanes → SessionFits disk (with-stripe old k after.stripe after.keeper after.pass)
fits-written disk drawn issued old k stripe admitted keeper after fits found is keeper-is left same keeps asked =
    let new = with-stripe old k after.stripe after.keeper after.pass in
    let plan = plan-stays old k after in
    let keeps-keeper = keeper-written disk old admitted keeper after keeper-is same in
    session-fits disk drawn issued old new fits plan (count-left old new k after.stripe refl)
    (stripes-left disk old new k stripe after.stripe fits plan found refl (stripe-then disk stripe admitted after.stripe (admitted-stripe disk stripe admitted is) same.stripe) left.stripe left.rest)
    left.keeper keeps-keeper (ap₂ blocks_of keeps-keeper.sectors keeps-keeper.block_sectors) keeps asked

-- it stands
pub stands-written : {D : Type 0} (disk : Ghosts D) (opening : Opening) (old : Session D) (k : ℕ) (stripe admitted : Stripe D) (keeper : Keeper D) (after : Desk D) → SessionStands disk opening old → slice_get old.stripes.items k ≡ Some stripe
    → IsAdmitted disk stripe admitted → IsKeeperAdmitted disk old.keeper keeper → (DeskStands disk opening (desk admitted keeper old.pass) → DeskStands disk opening after)
    → SessionStands disk opening (with-stripe old k after.stripe after.keeper after.pass)
stands-written disk opening old k stripe admitted keeper after stands found is keeper-is step =
    let new = with-stripe old k after.stripe after.keeper after.pass in
    let left = step (record {
      stripe = admitted-stripe-stands disk opening stripe admitted is (stands.stripes k stripe found);
      keeper = admitted-stands disk opening old.keeper keeper keeper-is stands.keeper;
    }) in
    session-stands disk opening old new stands (plan-stays old k after) left.keeper
    (stripes-stand disk opening old new k after.stripe stands refl left.stripe)

-- it is of the same plan and over the same devices
pub same-written : {D : Type 0} (disk : Ghosts D) (old : Session D) (k : ℕ) (stripe admitted : Stripe D) (keeper : Keeper D) (after : Desk D) → slice_get old.stripes.items k ≡ Some stripe → IsAdmitted disk stripe admitted → IsKeeperAdmitted disk old.keeper keeper
    → SameDesk disk (desk admitted keeper old.pass) after → SameSession disk old (with-stripe old k after.stripe after.keeper after.pass)
same-written disk old k stripe admitted keeper after found is keeper-is same =
    session-same disk old (with-stripe old k after.stripe after.keeper after.pass) k stripe after.stripe (plan-stays old k after) found refl
    (stripe-then disk stripe admitted after.stripe (admitted-stripe disk stripe admitted is) same.stripe) (keeper-written disk old admitted keeper after keeper-is same)

-- and this was done there
pub did-write : {D : Type 0} (disk : Ghosts D) (place : Option (ℕ × ℕ)) (id : CmdId) (block first : ℕ) (bytes : List ℕ) (answer : Answer) (old : Session D) (stripe admitted : Stripe D) (keeper : Keeper D) (after : Desk D) → place ≡ Some (block, first)
    → slice_get old.stripes.items (block / old.each) ≡ Some stripe → IsAdmitted disk stripe admitted → IsKeeperAdmitted disk old.keeper keeper → WroteAt disk id block first bytes answer (desk admitted keeper old.pass) after
    → WriteDid disk place id bytes answer old (with-stripe old (block / old.each) after.stripe after.keeper after.pass)
did-write disk place id block first bytes answer old stripe admitted keeper after at found is keeper-is did =
    let new = with-stripe old (block / old.each) after.stripe after.keeper after.pass in
    let here : WriteDid disk (Some (block, first)) id bytes answer old new = record {
      before = desk admitted keeper old.pass;
      after = after;
      found = record { stripe = stripe; found = found; admitted = is; keeper = keeper-is; pass = refl };
      left = record { stripes = refl; keeper = refl; pass = refl; plan = plan-stays old (block / old.each) after };
      did = did;
    } in
    subst (λ (p : Option (ℕ × ℕ)). WriteDid disk p id bytes answer old new) (sym at) here

-- nothing was done where the sectors lie in no one block
pub did-no-write : {D : Type 0} (disk : Ghosts D) (place : Option (ℕ × ℕ)) (id : CmdId) (bytes : List ℕ) (session : Session D) → place ≡ None → WriteDid disk place id bytes Range session session
did-no-write disk place id bytes session at = subst (λ (p : Option (ℕ × ℕ)). WriteDid disk p id bytes Range session session) (sym at) (refl, refl)

-- and nothing was drawn
pub keeps-none : (issued : CmdId → Bool) (pass : PassToken) → KeepsPass 0 issued pass pass
keeps-none issued pass = record {
  table = refl;
  lanes = λ l. refl;
  gone = λ id none. refl;
  budget = omega arith;
  floor = omega arith;
  begun = λ d. omega arith;
  ended = λ d. omega arith;
}

-- bytes that are whole sectors of one block
pub place-of-bytes : (geometry : Geometry) (sector bytes block first : ℕ) → place_at geometry.sectors geometry.block_sectors sector (bytes / 512) ≡ Some (block, first) → block * geometry.block_sectors + first ≡ sector
    → first + bytes / 512 ≤ geometry.block_sectors → sector + bytes / 512 ≤ geometry.sectors → bytes % 512 ≡ 0 → IsPlace geometry block first bytes
place-of-bytes geometry sector bytes block first is at inside within rest =
    let all : bytes / 512 * 512 ≡ bytes = let d = div-add-mod' bytes 512 in omega (arith, d, rest) in
    subst (λ n. IsPlace geometry block first n) all
    (place-holds geometry sector (bytes / 512) block first is at inside within (place-divides geometry.sectors geometry.block_sectors sector (bytes / 512) block first is).2)
