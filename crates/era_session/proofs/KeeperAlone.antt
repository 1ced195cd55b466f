-- A session whose keeper alone was called: its stripes are as they were, and it fits together and stands as before.
use Rattle.std.proofs.Common.{◌≡◌, ℕ, List, length, Some, slice_get, refl, sym, ap, ap₂, ◌∙◌, subst}
use Rattle.std.specs.Prelude.{Bool, unwrap_or, Option}
use Rattle.era_base.specs.Calls.{SameDisk}
use Rattle.era_base.specs.Geometry.{blocks_of}
use Rattle.era_base.specs.declared.disk.Disk.{Ghosts}
use Rattle.era_base.specs.declared.ids.CmdId.{CmdId}
use Rattle.era_gate.specs.Calls.{KeeperToken}
use Rattle.era_gate.specs.Passes.{KeepsPass}
use Rattle.era_gate.specs.Requests.{LanesAskForMarks}
use Rattle.era_keeper.specs.Calls.{SameKeeper}
use Rattle.era_keeper.specs.Keepers.{KeeperFits, KeeperStands, ViewStands, comes_back, view_of as keeper_view}
use Rattle.era_keeper.specs.Results.{AnswersCount}
use Rattle.era_keeper.specs.declared.keeper.Keeper.{Keeper}
use Rattle.era_meta.specs.declared.metadata.Meta.{Meta}
use Rattle.era_model.specs.declared.opening.Opening.{Opening}
use Rattle.era_model.specs.declared.reply.Answer.{Answer}
use Rattle.era_notes.specs.Notes.{first_device}
use Rattle.era_session.specs.AtStripes.{IsKeeperAdmitted}
use Rattle.era_session.specs.Sessions.{SamePlan, SameSession, SessionFits, SessionStands}
use Rattle.era_session.specs.declared.session.Session.{Session}
use Rattle.era_session.proofs.AtStripes.{session-fits, session-stands, stripe-same, stripe-stays}
use Rattle.era_stripe.specs.Calls.{SameStripe}
use Rattle.era_stripe.specs.declared.stripe.Stripe.{Stripe}

-- it fits together
pub alone-fits : {D : Type 0} (disk : Ghosts D) (drawn : ℕ) (issued : CmdId → Bool) (old new : Session D) → SessionFits disk old → SamePlan old new → new.stripes.items ≡ old.stripes.items → KeeperFits disk new.keeper
    → SameKeeper disk old.keeper new.keeper → KeepsPass drawn issued old.pass new.pass → LanesAskForMarks new.pass.part.lanes → SessionFits disk new
alone-fits {D} disk drawn issued old new fits plan is keeper same keeps asked =
    session-fits disk drawn issued old new fits plan (ap length is)
    (λ k stripe at. stripe-stays disk old new k stripe plan (fits.stripes k stripe (subst (λ (all : List (Stripe D)). slice_get all k ≡ Some stripe) is at)))
    keeper same (ap₂ blocks_of same.sectors same.block_sectors) keeps asked

-- it stands
pub alone-stands : {D : Type 0} (disk : Ghosts D) (opening : Opening) (old new : Session D) → SessionStands disk opening old → SamePlan old new → new.stripes.items ≡ old.stripes.items → KeeperStands disk opening new.keeper
    → SessionStands disk opening new
alone-stands {D} disk opening old new stands plan is keeper =
    session-stands disk opening old new stands plan keeper
    (λ k stripe at. stands.stripes k stripe (subst (λ (all : List (Stripe D)). slice_get all k ≡ Some stripe) is at))

-- the keeper stands with its room
pub admitted-stands : {D : Type 0} (disk : Ghosts D) (opening : Opening) (old new : Keeper D) → IsKeeperAdmitted disk old new → KeeperStands disk opening old → KeeperStands disk opening new
admitted-stands {D} disk opening old new is stands =
    subst (λ (m : Meta D). ViewStands disk.tells opening (comes_back disk m) (keeper_view disk new)) (sym is.meta)
    (subst (ViewStands disk.tells opening (comes_back disk old.meta)) (sym is.view) stands)

-- what stays of a keeper with its room stays of the keeper
pub admitted-same : {D : Type 0} (disk : Ghosts D) (old between new : Keeper D) → IsKeeperAdmitted disk old between → SameKeeper disk between new → SameKeeper disk old new
admitted-same {D} disk old between new is same = record {
  table = same.table ∙ ap (λ (seat : KeeperToken). seat.table) is.seat;
  device = subst (λ (m : Meta D). SameDisk disk m.slots.disk new.meta.slots.disk) is.meta same.device;
  began = same.began ∙ ap first_device is.notes;
  sectors = same.sectors ∙ ap (λ (m : Meta D). m.marks.sectors) is.meta;
  block_sectors = same.block_sectors ∙ ap (λ (m : Meta D). m.marks.block_sectors) is.meta;
}

-- an answer tells the count of the keeper's device as of before its room
pub admitted-cause : {D : Type 0} (disk : Ghosts D) (old between : Keeper D) (now : ℕ) (answer : Answer) → IsKeeperAdmitted disk old between → AnswersCount (disk.faults between.meta.slots.disk) now answer
    → AnswersCount (disk.faults old.meta.slots.disk) now answer
admitted-cause {D} disk old between now answer is cause = subst (λ (m : Meta D). AnswersCount (disk.faults m.slots.disk) now answer) is.meta cause

-- it is of the same plan and over the same devices
pub alone-same : {D : Type 0} (disk : Ghosts D) (old new : Session D) → SamePlan old new → new.stripes.items ≡ old.stripes.items → SameKeeper disk old.keeper new.keeper → SameSession disk old new
alone-same {D} disk old new plan is keeper = record {
  plan = plan;
  count = ap length is;
  stripes = λ k x y at there. subst (λ (z : Stripe D). SameStripe disk x z)
      (ap (λ (o : Option (Stripe D)). unwrap_or o x) (sym at ∙ subst (λ (all : List (Stripe D)). slice_get all k ≡ Some y) is there)) (stripe-same disk x);
  keeper = keeper;
}
