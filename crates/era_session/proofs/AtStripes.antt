-- A session after a command at one of its stripes: what fits together and what stands.
use Rattle.std.proofs.Common.{◌≡◌, ℕ, zero, suc, ◌+◌, ◌-◌, ◌*◌, ◌<◌, ◌≤◌, true, false, List, [], ◌∷◌, length, min, Option, Some, None, slice_get, slice_set, refl, sym, ap, ◌∙◌, subst, arith}
use Rattle.std.proofs.lemmas.List.{length-set}
use Rattle.std.proofs.lemmas.Option.{slice_get_within}
use Rattle.era_base.specs.declared.disk.Disk.{Ghosts}
use Rattle.era_base.specs.declared.ids.CmdId.{CmdId}
use Rattle.std.specs.Prelude.{Bool, unwrap_or, vec_capacity}
use Rattle.era_base.specs.Geometry.{blocks_of, stripe_blocks}
use Rattle.era_base.specs.declared.geometry.Geometry.{Geometry}
use Rattle.std.specs.Vec.{with_item}
use Rattle.era_gate.specs.Calls.{GateToken, PassToken, StripeToken, has_lane}
use Rattle.era_keeper.specs.Keepers.{KeeperFits, KeeperStands}
use Rattle.era_gate.specs.Passes.{KeepsPass}
use Rattle.era_gate.specs.Requests.{LanesAskForMarks}
use Rattle.era_keeper.specs.Calls.{SameKeeper}
use Rattle.era_keeper.specs.declared.keeper.Keeper.{Keeper}
use Rattle.era_model.specs.Marks.{blocks_of_marks}
use Rattle.era_model.specs.declared.opening.Opening.{Opening}
use Rattle.era_session.specs.Sessions.{AreSharedOut, HasRoomToEnd, IsStripeOf, SamePlan, SameSession, SessionFits, SessionStands, session_blocks}
use Rattle.era_session.specs.declared.session.Session.{Session}
use Rattle.era_stripe.specs.Calls.{SameStripe}
use Rattle.era_stripe.specs.Stripes.{IsAtRest, StripeFits, StripeStands}
use Rattle.era_stripe.specs.declared.stripe.Stripe.{Stripe}

-- what holds of each element of a list, and of one that replaces an element, holds of each element behind that
pub at-set : {A : Type 0} (P : ℕ → A → Type 0) (xs : List A) (k : ℕ) (y : A) → ((j : ℕ) (x : A) → slice_get xs j ≡ Some x → P j x) → P k y
    → (j : ℕ) (z : A) → slice_get (slice_set xs k y) j ≡ Some z → P j z
at-set P [] k y each one j z at = each j z at
at-set {A} P (x ∷ xs) zero y each one zero z at = subst (P 0) (ap (λ (o : Option A). unwrap_or o y) at) one
at-set P (x ∷ xs) zero y each one (suc j) z at = each (suc j) z at
at-set P (x ∷ xs) (suc k) y each one zero z at = each 0 z at
at-set P (x ∷ xs) (suc k) y each one (suc j) z at = at-set (λ i. P (suc i)) xs k y (λ i. each (suc i)) one j z at

-- a stripe that a command left is that of the same number
stripe-left : {D : Type 0} (disk : Ghosts D) (old new : Session D) (k : ℕ) (before after : Stripe D) → SamePlan old new → IsStripeOf disk old k before → SameStripe disk before after → StripeFits disk after → IsAtRest after
    → IsStripeOf disk new k after
stripe-left disk old new k before after plan is same fits rest = record {
  fits = fits;
  rest = rest;
  index = same.index ∙ is.index;
  geometry = same.geometry ∙ is.geometry ∙ sym plan.geometry;
  first = same.first_block ∙ is.first ∙ ap (λ each. k * each) (sym plan.each);
  blocks = same.blocks ∙ is.blocks
      ∙ ap (λ (each : ℕ). min each (blocks_of old.geometry.sectors old.geometry.block_sectors - k * each)) (sym plan.each)
      ∙ ap (λ (g : Geometry). min new.each (blocks_of g.sectors g.block_sectors - k * new.each)) (sym plan.geometry);
  table = same.table ∙ is.table ∙ ap (λ (gate : GateToken). gate.table) (sym plan.gate);
}

-- a stripe that stays
pub stripe-same : {D : Type 0} (disk : Ghosts D) (stripe : Stripe D) → SameStripe disk stripe stripe
stripe-same disk stripe = record { index = refl; geometry = refl; first_block = refl; blocks = refl; place = refl; sectors = refl; began = refl; table = refl }

-- a stripe that a command left alone is that of the same number
pub stripe-stays : {D : Type 0} (disk : Ghosts D) (old new : Session D) (k : ℕ) (stripe : Stripe D) → SamePlan old new → IsStripeOf disk old k stripe → IsStripeOf disk new k stripe
stripe-stays disk old new k stripe plan is = stripe-left disk old new k stripe stripe plan is (stripe-same disk stripe) is.fits is.rest

-- the blocks of a session of the same plan
same-blocks : {D : Type 0} (old new : Session D) → SamePlan old new → session_blocks new ≡ session_blocks old
same-blocks old new plan = ap (λ (g : Geometry). blocks_of g.sectors g.block_sectors) plan.geometry

shared-stays : {D : Type 0} (old new : Session D) → SamePlan old new → length new.stripes.items ≡ length old.stripes.items → AreSharedOut old → AreSharedOut new
shared-stays old new plan count shared = record {
  any = subst (λ (gate : GateToken). 0 < gate.plan.stripes) (sym plan.gate) shared.any;
  stripes = count ∙ shared.stripes ∙ ap (λ (gate : GateToken). gate.plan.stripes) (sym plan.gate);
  few = subst (λ (gate : GateToken). gate.plan.stripes ≤ 16) (sym plan.gate) shared.few;
  each = plan.each ∙ shared.each ∙ ap (λ n. stripe_blocks n old.gate.plan.stripes) (sym (same-blocks old new plan))
      ∙ ap (λ (gate : GateToken). stripe_blocks (session_blocks new) gate.plan.stripes) (sym plan.gate);
  some = λ k below. subst (λ (each : ℕ). k * each < session_blocks new) (sym plan.each)
      (subst (λ n. k * old.each < n) (sym (same-blocks old new plan))
      (shared.some k (subst (λ (gate : GateToken). k < gate.plan.stripes) plan.gate below)));
}

ending-stays : {D : Type 0} (old new : Session D) → SamePlan old new → length new.stripes.items ≡ length old.stripes.items → HasRoomToEnd old → HasRoomToEnd new
ending-stays {D} old new plan count ending = record {
  no_seats = rw (plan.seats) ending.no_seats;
  no_parts = rw (plan.parts) ending.no_parts;
  seats = rw (count, plan.seats) ending.seats;
  parts = rw (count, plan.parts) ending.parts;
}

-- a session fits together whose stripes and keeper do, in the plan of one that did
pub session-fits : {D : Type 0} (disk : Ghosts D) (drawn : ℕ) (issued : CmdId → Bool) (old new : Session D) → SessionFits disk old → SamePlan old new → length new.stripes.items ≡ length old.stripes.items
    → ((k : ℕ) (stripe : Stripe D) → slice_get new.stripes.items k ≡ Some stripe → IsStripeOf disk new k stripe)
    → KeeperFits disk new.keeper → SameKeeper disk old.keeper new.keeper → blocks_of_marks new.keeper.meta.marks ≡ blocks_of_marks old.keeper.meta.marks
    → KeepsPass drawn issued old.pass new.pass → LanesAskForMarks new.pass.part.lanes → SessionFits disk new
session-fits disk drawn issued old new fits plan count stripes keeper same marks keeps asked = record {
  stripes = stripes;
  keeper = keeper;
  tables = (
    same.table ∙ fits.tables.0 ∙ ap (λ (gate : GateToken). gate.table) (sym plan.gate),
    keeps.table ∙ fits.tables.1 ∙ ap (λ (gate : GateToken). gate.table) (sym plan.gate),
  );
  lanes = λ l below. keeps.lanes l ∙ fits.lanes l below;
  asked = asked;
  blocks = ap (λ (gate : GateToken). gate.plan.blocks) plan.gate ∙ fits.blocks ∙ sym (same-blocks old new plan);
  marks = marks ∙ fits.marks ∙ sym (same-blocks old new plan);
  shared = shared-stays old new plan count fits.shared;
  ending = ending-stays old new plan count fits.ending;
}

-- the stripes of a session, where one of them is another and still that of its number
pub stripes-left : {D : Type 0} (disk : Ghosts D) (old new : Session D) (k : ℕ) (before after : Stripe D) → SessionFits disk old → SamePlan old new → slice_get old.stripes.items k ≡ Some before
    → new.stripes.items ≡ slice_set old.stripes.items k after → SameStripe disk before after → StripeFits disk after → IsAtRest after
    → (j : ℕ) (stripe : Stripe D) → slice_get new.stripes.items j ≡ Some stripe → IsStripeOf disk new j stripe
stripes-left {D} disk old new k before after fits plan found is same own rest j stripe at =
    at-set (IsStripeOf disk new) old.stripes.items k after (λ i x there. stripe-stays disk old new i x plan (fits.stripes i x there))
    (stripe-left disk old new k before after plan (fits.stripes k before found) same own rest)
    j stripe (subst (λ (all : List (Stripe D)). slice_get all j ≡ Some stripe) is at)

-- a session stands whose keeper and stripes do, in the plan of one that did
pub session-stands : {D : Type 0} (disk : Ghosts D) (opening : Opening) (old new : Session D) → SessionStands disk opening old → SamePlan old new → KeeperStands disk opening new.keeper
    → ((k : ℕ) (stripe : Stripe D) → slice_get new.stripes.items k ≡ Some stripe → StripeStands disk opening stripe) → SessionStands disk opening new
session-stands disk opening old new stands plan keeper stripes = record {
  opens = stands.opens;
  sectors = stands.sectors ∙ ap (λ (g : Geometry). g.sectors) (sym plan.geometry);
  block_sectors = stands.block_sectors ∙ ap (λ (g : Geometry). g.block_sectors) (sym plan.geometry);
  era = stands.era ∙ ap (λ (gate : GateToken). gate.plan.era) (sym plan.gate);
  count = stands.count ∙ ap (λ (gate : GateToken). gate.plan.stripes) (sym plan.gate);
  keeper = keeper;
  stripes = stripes;
  contents = stands.contents;
}

-- the stripes of a session that stands, where one of them is another that stands
pub stripes-stand : {D : Type 0} (disk : Ghosts D) (opening : Opening) (old new : Session D) (k : ℕ) (after : Stripe D) → SessionStands disk opening old
    → new.stripes.items ≡ slice_set old.stripes.items k after → StripeStands disk opening after
    → (j : ℕ) (stripe : Stripe D) → slice_get new.stripes.items j ≡ Some stripe → StripeStands disk opening stripe
stripes-stand {D} disk opening old new k after stands is own j stripe at =
    at-set (λ i (x : Stripe D). StripeStands disk opening x) old.stripes.items k after stands.stripes own
    j stripe (subst (λ (all : List (Stripe D)). slice_get all j ≡ Some stripe) is at)

-- a session with another stripe, keeper and pass
abbrev pub with-stripe : {D : Type 0} → Session D → ℕ → Stripe D → Keeper D → PassToken → Session D
with-stripe session k stripe keeper pass = record {
  gate = session.gate;
  keeper = keeper;
  stripes = with_item session.stripes k stripe;
  pass = pass;
  geometry = session.geometry;
  each = session.each;
  seats = session.seats;
  parts = session.parts;
}

-- how many stripes there are, where one of them is another
pub count-left : {D : Type 0} (old new : Session D) (k : ℕ) (after : Stripe D) → new.stripes.items ≡ slice_set old.stripes.items k after → length new.stripes.items ≡ length old.stripes.items
count-left {D} old new k after is = ap length is ∙ length-set old.stripes.items k after

-- a keeper that stays
pub keeper-same : {D : Type 0} (disk : Ghosts D) (keeper : Keeper D) → SameKeeper disk keeper keeper
keeper-same disk keeper = record { table = refl; device = record { place = refl; size = refl }; began = refl; sectors = refl; block_sectors = refl }

-- the sessions before and after a command at one stripe are of one plan and over the same devices
pub session-same : {D : Type 0} (disk : Ghosts D) (old new : Session D) (k : ℕ) (before after : Stripe D) → SamePlan old new → slice_get old.stripes.items k ≡ Some before → new.stripes.items ≡ slice_set old.stripes.items k after
    → SameStripe disk before after → SameKeeper disk old.keeper new.keeper → SameSession disk old new
session-same {D} disk old new k before after plan found is same keeper = record {
  plan = plan;
  count = count-left old new k after is;
  stripes = λ j one two at there. at-set (λ i (x : Stripe D). (y : Stripe D) → slice_get old.stripes.items i ≡ Some y → SameStripe disk y x) old.stripes.items k after
      (λ i x here y also. subst (λ (z : Stripe D). SameStripe disk z x) (ap (λ (o : Option (Stripe D)). unwrap_or o x) (sym here ∙ also)) (stripe-same disk x))
      (λ y also. subst (λ (z : Stripe D). SameStripe disk z after) (ap (λ (o : Option (Stripe D)). unwrap_or o before) (sym found ∙ also)) same)
      j two (subst (λ (all : List (Stripe D)). slice_get all j ≡ Some two) is there) one at;
  keeper = keeper;
}

-- a list has an element below its length
get-there : {A : Type 0} (xs : List A) (k : ℕ) → k < length xs → (x : A) × (slice_get xs k ≡ Some x)
get-there [] k below = absurd (omega arith)
get-there (x ∷ xs) zero below = (x, refl)
get-there (x ∷ xs) (suc k) below = get-there xs k (omega arith)

pub stripe-then : {D : Type 0} (disk : Ghosts D) (a b c : Stripe D) → SameStripe disk a b → SameStripe disk b c → SameStripe disk a c
stripe-then disk a b c one two = record {
  index = two.index ∙ one.index;
  geometry = two.geometry ∙ one.geometry;
  first_block = two.first_block ∙ one.first_block;
  blocks = two.blocks ∙ one.blocks;
  place = two.place ∙ one.place;
  sectors = two.sectors ∙ one.sectors;
  began = two.began ∙ one.began;
  table = two.table ∙ one.table;
}

pub keeper-then : {D : Type 0} (disk : Ghosts D) (a b c : Keeper D) → SameKeeper disk a b → SameKeeper disk b c → SameKeeper disk a c
keeper-then disk a b c one two = record {
  table = two.table ∙ one.table;
  device = record { place = two.device.place ∙ one.device.place; size = two.device.size ∙ one.device.size };
  began = two.began ∙ one.began;
  sectors = two.sectors ∙ one.sectors;
  block_sectors = two.block_sectors ∙ one.block_sectors;
}

-- a session stays the same over calls one after the other
pub session-then : {D : Type 0} (disk : Ghosts D) (a b c : Session D) → SameSession disk a b → SameSession disk b c → SameSession disk a c
session-then disk a b c one two = record {
  plan = record {
    gate = two.plan.gate ∙ one.plan.gate;
    geometry = two.plan.geometry ∙ one.plan.geometry;
    each = two.plan.each ∙ one.plan.each;
    seats = two.plan.seats ∙ one.plan.seats;
    parts = two.plan.parts ∙ one.plan.parts;
  };
  count = two.count ∙ one.count;
  stripes = λ k x z at there.
      let within = slice_get_within a.stripes.items k x at in
      let mid = get-there b.stripes.items k (rw one.count within) in
      stripe-then disk x mid.0 z (one.stripes k x mid.0 at mid.1) (two.stripes k mid.0 z mid.1 there);
  keeper = keeper-then disk a.keeper b.keeper c.keeper one.keeper two.keeper;
}

-- a session stays the same
pub session-itself : {D : Type 0} (disk : Ghosts D) (session : Session D) → SameSession disk session session
session-itself {D} disk session = record {
  plan = record { gate = refl; geometry = refl; each = refl; seats = refl; parts = refl };
  count = refl;
  stripes = λ k x y at there. subst (λ (z : Stripe D). SameStripe disk x z) (ap (λ (o : Option (Stripe D)). unwrap_or o x) (sym at ∙ there)) (stripe-same disk x);
  keeper = keeper-same disk session.keeper;
}
