-- What one command works with: the stripe of its block, the keeper and the pass.
use Rattle.std.specs.Prelude.{◌≡◌, ℕ}
use Rattle.era_base.specs.Faults.{Rose}
use Rattle.era_base.specs.declared.disk.Disk.{Ghosts}
use Rattle.era_gate.specs.Calls.{GateToken, PassToken}
use Rattle.era_keeper.specs.Calls.{SameKeeper}
use Rattle.era_keeper.specs.Keepers.{KeeperFits, KeeperStands}
use Rattle.era_keeper.specs.declared.keeper.Keeper.{Keeper}
use Rattle.era_model.specs.Marks.{blocks_of_marks}
use Rattle.era_model.specs.declared.opening.Opening.{Opening}
use Rattle.era_model.specs.declared.reply.Answer.{Answer}
use Rattle.era_model.specs.declared.reply.Answer.TheVariants.{Fault}
use Rattle.era_model.specs.declared.reply.Device.TheVariants.{Data as DataDevice, Meta as MetaDevice}
use Rattle.era_stripe.specs.Calls.{SameStripe}
use Rattle.era_stripe.specs.Stripes.{IsAtRest, StripeFits, StripeStands}
use Rattle.era_stripe.specs.declared.stripe.Stripe.{Stripe}

-- The stripe of a command's block, the keeper and the pass, at one moment.
pub record Desk (D : Type 0) : Type 0 where
  pub stripe : Stripe D
  pub keeper : Keeper D
  pub pass : PassToken

-- A desk of these three.
abbrev pub desk : {D : Type 0} → Stripe D → Keeper D → PassToken → Desk D
desk stripe keeper pass = record { stripe = stripe; keeper = keeper; pass = pass }

-- They fit together, and the stripe is inside exactly where a write is cut.
pub record DeskFits {D : Type 0} (disk : Ghosts D) (gate : GateToken) (desk : Desk D) : Type 0 where
  pub stripe : StripeFits disk desk.stripe
  pub rest : IsAtRest desk.stripe
  pub keeper : KeeperFits disk desk.keeper
  pub seats : (desk.stripe.seat.table ≡ gate.table) × (desk.keeper.seat.table ≡ gate.table)
  pub pass : desk.pass.table ≡ gate.table
  pub blocks : blocks_of_marks desk.keeper.meta.marks ≡ gate.plan.blocks

-- Stripe and keeper stand in a session that opened so.
pub record DeskStands {D : Type 0} (disk : Ghosts D) (opening : Opening) (desk : Desk D) : Type 0 where
  pub stripe : StripeStands disk opening desk.stripe
  pub keeper : KeeperStands disk opening desk.keeper

-- Blocks, places and sizes stay, and so do both devices as the session began on them.
pub record SameDesk {D : Type 0} (disk : Ghosts D) (old new : Desk D) : Type 0 where
  pub stripe : SameStripe disk old.stripe new.stripe
  pub keeper : SameKeeper disk old.keeper new.keeper

-- The count of faults of the stripe's part.
abbrev pub part_faults : {D : Type 0} → Ghosts D → Desk D → ℕ
part_faults disk desk = disk.faults desk.stripe.disk

-- The count of faults of the metadata disk.
abbrev pub meta_faults : {D : Type 0} → Ghosts D → Desk D → ℕ
meta_faults disk desk = disk.faults desk.keeper.meta.slots.disk

-- A fault is told exactly where one came: of the stripe's part or of the metadata disk, with the count of the device that failed, which rose; the other one's count is as before.
abbrev pub AnswersCounts : {D : Type 0} → Ghosts D → Answer → Desk D → Desk D → Type 0
AnswersCounts disk (Fault DataDevice count) old new =
    (count ≡ part_faults disk new) × Rose (part_faults disk old) (part_faults disk new) × (meta_faults disk new ≡ meta_faults disk old)
AnswersCounts disk (Fault MetaDevice count) old new =
    (count ≡ meta_faults disk new) × Rose (meta_faults disk old) (meta_faults disk new) × (part_faults disk new ≡ part_faults disk old)
AnswersCounts disk answer old new = (part_faults disk new ≡ part_faults disk old) × (meta_faults disk new ≡ meta_faults disk old)
