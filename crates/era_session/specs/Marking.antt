-- What holds between the steps of a write: before its mark is asked for, and once it was.
use Rattle.std.specs.Prelude.{◌≡◌, ℕ, ◌<◌, ◌≤◌, true, false, List, None, Result, Ok, Err}
use Rattle.era_base.specs.Flags.{has}
use Rattle.era_base.specs.declared.disk.Disk.{Ghosts}
use Rattle.era_base.specs.declared.ids.CmdId.{CmdId}
use Rattle.era_gate.specs.Calls.{GateToken, has_lane, has_seen}
use Rattle.era_gate.specs.Passes.{no_write}
use Rattle.era_keeper.specs.Keepers.{KeeperFits}
use Rattle.era_model.specs.declared.event.Event.{Event}
use Rattle.era_model.specs.Marks.{blocks_of_marks}
use Rattle.era_notes.specs.Rooms.{free_in}
use Rattle.era_session.specs.Chunks.{ChunkDrew}
use Rattle.era_session.specs.Desks.{Desk, DeskFits}
use Rattle.era_session.specs.Writes.{IsFailedMarking, marking_events}
use Rattle.era_stripe.specs.Stripes.{StripeFits}

-- A block's mark may be asked for: the desk fits together, no write is cut, the pass has the command's lane and two draws, the keeper has room for two entries, and the block is one of the origin.
pub record MayMark {D : Type 0} (disk : Ghosts D) (gate : GateToken) (desk : Desk D) (id : CmdId) (block : ℕ) : Type 0 where
  pub fits : DeskFits disk gate desk
  pub uncut : desk.stripe.cut ≡ None
  pub lane : has_lane id.lane desk.pass.part.lanes ≡ true
  pub budget : 2 ≤ desk.pass.part.budget
  pub room : 2 ≤ free_in desk.keeper.entries
  pub of_origin : block < gate.plan.blocks

-- The stripe is inside for a write to the block: it has seen the block's mark, and no write is cut; all else fits together.
pub record IsInsideFor {D : Type 0} (disk : Ghosts D) (gate : GateToken) (block : ℕ) (desk : Desk D) : Type 0 where
  pub stripe : StripeFits disk desk.stripe
  pub uncut : desk.stripe.cut ≡ None
  pub inside : desk.stripe.seat.part.state.inside ≡ true
  pub saw : has_seen block desk.stripe.seat.part.seen ≡ true
  pub keeper : KeeperFits disk desk.keeper
  pub seats : (desk.stripe.seat.table ≡ gate.table) × (desk.keeper.seat.table ≡ gate.table)
  pub pass : desk.pass.table ≡ gate.table
  pub blocks : blocks_of_marks desk.keeper.meta.marks ≡ gate.plan.blocks

-- With its mark the stripe is inside for the block; without it the stripe has left, and all fits together.
abbrev pub AfterMarking : {D : Type 0} → Ghosts D → GateToken → ℕ → Result Unit ℕ → Desk D → Type 0
AfterMarking disk gate block (Ok value) desk = IsInsideFor disk gate block desk
AfterMarking disk gate block (Err count) desk = DeskFits disk gate desk

-- The keeper drew that a block without a mark of the present era got none, and the pass has the receipts of these entries.
pub record FailedMarkingDrew {D : Type 0} (id : CmdId) (block count : ℕ) (old new : Desk D) : Type 0 where
  pub unmarked : has old.keeper.meta.marks.current block ≡ false
  pub events : List Event
  pub failed : IsFailedMarking id block old.keeper.meta.marks.era count events
  pub drew : ChunkDrew events no_write old.pass new.pass old.keeper.entries new.keeper.entries

-- What the keeper drew of a marking, by its result, and the pass has the receipts of these entries.
abbrev pub MarkingDrew : {D : Type 0} → CmdId → ℕ → Result Unit ℕ → Desk D → Desk D → Type 0
MarkingDrew id block (Ok value) old new =
    ChunkDrew (marking_events (has old.keeper.meta.marks.current block) id block old.keeper.meta.marks.era) no_write old.pass new.pass old.keeper.entries
    new.keeper.entries
MarkingDrew id block (Err count) old new = FailedMarkingDrew id block count old new
