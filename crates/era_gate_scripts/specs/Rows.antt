-- What the rows of the gate ask and tell.
use Rattle.std.specs.Prelude.{◌≡◌, ℕ, ◌+◌, ◌<◌, ◌≤◌, true, false, None}
use Rattle.era_base.specs.declared.ids.CmdId.{CmdId}
use Rattle.era_model.specs.declared.event.Event.{Event}
use Rattle.era_model.specs.declared.event.Event.TheVariants.{Go}
use Rattle.era_gate.specs.Calls.{GateToken, KeeperToken, StripeToken, PassToken, TableId, has_gone, has_lane}

-- A write of the first command of lane 0 to block 0 in an era.
abbrev pub IsWrite : ℕ → Event → Type 0
IsWrite present (Go id block era first bytes) = (id ≡ record { lane = 0; number = 0 }) × (block ≡ 0) × (era ≡ present)
IsWrite present event = ⊥

-- A new gate of two stripes and some blocks, in era 1: with its keeper, a stripe that is outside, and a pass that has all lanes, many draws and no write issued.
pub record IsNew (gate : GateToken) (keeper : KeeperToken) (seat : StripeToken) (pass : PassToken) : Type 0 where
  pub blocks : 0 < gate.plan.blocks
  pub stripes : gate.plan.stripes ≡ 2
  pub keeper_table : keeper.table ≡ gate.table
  pub era : 1 ≡ keeper.part.state.era
  pub switched : keeper.part.state.switched ≡ true
  pub seat_table : seat.table ≡ gate.table
  pub outside : seat.part.state.inside ≡ false
  pub idle : seat.part.state.flight ≡ None
  pub pass_table : pass.table ≡ gate.table
  pub lanes : (l : ℕ) → l < 65 → has_lane l pass.part.lanes ≡ true
  pub budget : 9999 < pass.part.budget
  pub fresh : (id : CmdId) → has_gone id pass.part.lanes ≡ false

-- A stripe that is inside may issue such a write to a gate of some blocks, with a pass of lane 0.
pub record MayIssue (gate : GateToken) (seat : StripeToken) (pass : PassToken) (write : Event) : Type 0 where
  pub blocks : 0 < gate.plan.blocks
  pub seat_table : seat.table ≡ gate.table
  pub inside : seat.part.state.inside ≡ true
  pub idle : seat.part.state.flight ≡ None
  pub is_write : IsWrite seat.part.era write
  pub pass_table : pass.table ≡ gate.table
  pub lane : has_lane 0 pass.part.lanes ≡ true
  pub budget : 0 < pass.part.budget
  pub fresh : (id : CmdId) → has_gone id pass.part.lanes ≡ false

-- A pass was used for at most so many draws: it is of its table and has its lanes.
pub record IsUsed (few : ℕ) (old new : PassToken) : Type 0 where
  pub table : new.table ≡ old.table
  pub lanes : (l : ℕ) → has_lane l new.part.lanes ≡ has_lane l old.part.lanes
  pub budget : old.part.budget ≤ new.part.budget + few

-- A stripe that is outside may go 1,000 rounds with a pass of a lane.
abbrev pub MayGoRounds : TableId → StripeToken × PassToken → ℕ → Type 0
MayGoRounds table pair lane =
    (pair.0.table ≡ table) × (pair.1.table ≡ table) × (pair.0.part.state.inside ≡ false) × (pair.0.part.state.flight ≡ None) × (has_lane lane pair.1.part.lanes ≡ true) × (1000 ≤ pair.1.part.budget)

-- It went them: the pass has the lanes that it had.
abbrev pub WentRounds : TableId → StripeToken × PassToken → StripeToken × PassToken → Type 0
WentRounds table pair later =
    (later.0.table ≡ table) × (later.1.table ≡ table) × ((l : ℕ) → has_lane l later.1.part.lanes ≡ has_lane l pair.1.part.lanes)
