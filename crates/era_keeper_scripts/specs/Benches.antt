-- A keeper of an origin of 64 blocks, behind a gate: what its scripts ask.
use Rattle.std.specs.Prelude.{◌≡◌, ℕ, ◌+◌, ◌≤◌, true, false, None}
use Rattle.era_base.specs.declared.disk.Disk.{Ghosts}
use Rattle.era_gate.specs.Calls.{GateToken, PassToken, StripeToken, has_lane}
use Rattle.era_keeper.specs.declared.keeper.Keeper.{Keeper}
use Rattle.era_keeper.specs.Keepers.{KeeperFits}

-- The marks of a keeper are of 512 sectors, in blocks of 8.
pub record HasSixtyFourBlocks {D : Type 0} (keeper : Keeper D) : Type 0 where
  pub sectors : keeper.meta.marks.sectors ≡ 512
  pub size : keeper.meta.marks.block_sectors ≡ 8

-- A keeper of the 64 blocks fits together, at a gate that covers them, with a pass of lane 0 that has drawn at most so many events.
pub record IsBench {D : Type 0} (disk : Ghosts D) (drawn : ℕ) (gate : GateToken) (keeper : Keeper D) (pass : PassToken) : Type 0 where
  pub table : keeper.seat.table ≡ gate.table
  pub pass_table : pass.table ≡ gate.table
  pub covers : gate.plan.blocks ≡ 64
  pub blocks : HasSixtyFourBlocks keeper
  pub fits : KeeperFits disk keeper
  pub lane : has_lane 0 pass.part.lanes ≡ true
  pub budget : 1000 ≤ pass.part.budget + drawn

-- The stripe of a gate is outside it, without an open write.
pub record IsOutside (gate : GateToken) (stripe : StripeToken) : Type 0 where
  pub table : stripe.table ≡ gate.table
  pub outside : stripe.part.state.inside ≡ false
  pub idle : stripe.part.state.flight ≡ None
