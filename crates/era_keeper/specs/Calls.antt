-- What the calls of a keeper ask, and what they drew.
use Rattle.std.specs.Prelude.{◌≡◌, ℕ, ◌+◌, ◌^◌, ◌<◌, ◌≤◌, true, List, [], ◌∷◌, ◌++◌, length, map}
use Rattle.era_base.specs.Calls.{SameDisk}
use Rattle.era_base.specs.declared.disk.Disk.{Ghosts}
use Rattle.era_base.specs.declared.ids.CmdId.{CmdId}
use Rattle.era_gate.specs.Acts.{entry}
use Rattle.era_gate.specs.Calls.{GateToken, PassToken, has_lane, keeper_draws, pass_draws, KeeperAsks, PassAsks}
use Rattle.era_gate.specs.Places.{AscendFrom}
use Rattle.era_gate.specs.Passes.{HasMarks, KeepsPass, no_write}
use Rattle.era_gate.specs.declared.parts.PassPart.{PassPart}
use Rattle.era_keeper.specs.declared.keeper.Keeper.{Keeper}
use Rattle.era_keeper.specs.Keepers.{FitsAfter}
use Rattle.era_model.specs.declared.entry.Entry.{Entry}
use Rattle.era_model.specs.declared.event.Event.{Event}
use Rattle.era_notes.specs.Notes.{first_device}
use Rattle.era_notes.specs.Rooms.{entries_in, free_in, last_in}

-- A command may draw so many events at a keeper that fits together, behind so many commits: gate, seat and pass are of one table, the pass has the command's lane and that many draws, and the keeper has room for the entries.
pub record MayDraw {D : Type 0} (disk : Ghosts D) (commits : ℕ) (gate : GateToken) (keeper : Keeper D) (pass : PassToken) (id : CmdId) (draws : ℕ) : Type 0 where
  pub fits : FitsAfter disk commits keeper
  pub table : keeper.seat.table ≡ gate.table
  pub pass_table : pass.table ≡ gate.table
  pub lane : has_lane id.lane pass.part.lanes ≡ true
  pub budget : draws ≤ pass.part.budget
  pub room : draws ≤ free_in keeper.entries

-- A command may begin at a keeper.
abbrev pub MayCall : {D : Type 0} → Ghosts D → GateToken → Keeper D → PassToken → CmdId → ℕ → Type 0
MayCall disk gate keeper pass id draws = MayDraw disk 0 gate keeper pass id draws

-- An event may be drawn at a keeper.
pub record MayNote {D : Type 0} (gate : GateToken) (keeper : Keeper D) (pass : PassToken) (event : Event) : Type 0 where
  pub table : keeper.seat.table ≡ gate.table
  pub pass_table : pass.table ≡ gate.table
  pub may : KeeperAsks event keeper.seat.part
  pub asks : PassAsks event pass.part
  pub room : 0 < free_in keeper.entries

-- A pass after draws: it has their receipts.
abbrev pub after_draws : PassPart → List Entry → PassPart
after_draws pass [] = pass
after_draws pass (entry ∷ entries) = after_draws (pass_draws pass entry.event entry.place) entries

-- A keeper has kept entries of these events behind those that it had, and behind those of the last chunk. Their places ascend from a floor on.
pub record KeptEntries {D : Type 0} (events : List Event) (floor : ℕ) (old new : Keeper D) : Type 0 where
  pub entries : List Entry
  pub are : map (λ (entry : Entry). entry.event) entries ≡ events
  pub kept : entries_in new.entries ≡ entries_in old.entries ++ entries
  pub last : last_in new.entries ≡ last_in old.entries ++ entries
  pub ascend : AscendFrom floor entries
  pub room : free_in old.entries ≡ free_in new.entries + length events

-- A keeper drew these events, in order, and the pass has their receipts and no others.
pub record Drew {D : Type 0} (events : List Event) (old new : Keeper D) (pass pass' : PassToken) : Type 0 where
  pub kept : KeptEntries events pass.part.floor old new
  pub receipts : pass'.part.lanes ≡ (after_draws pass.part kept.entries).lanes
  pub keeps : KeepsPass (length events) no_write pass pass'

-- A keeper drew an event at a place: the seat and the pass know of it, and the entry is kept, as the latest of the last chunk.
pub record DrewAt {D : Type 0} (event : Event) (place : ℕ) (old new : Keeper D) (pass pass' : PassToken) : Type 0 where
  pub seat : new.seat ≡ record { table = old.seat.table; part = keeper_draws old.seat.part event place }
  pub lanes : pass'.part.lanes ≡ (pass_draws pass.part event place).lanes
  pub floor : pass.part.floor ≤ place
  pub next : place + 1 ≤ pass'.part.floor
  pub kept : entries_in new.entries ≡ entries_in old.entries ++ entry place event ∷ []
  pub last : last_in new.entries ≡ last_in old.entries ++ entry place event ∷ []
  pub room : free_in new.entries + 1 ≡ free_in old.entries
  pub keeps : KeepsPass 1 no_write pass pass'
  pub marks : HasMarks event old.seat.part.state.entries new.seat.part.state.entries
  pub ascend : AscendFrom 0 new.seat.part.state.entries
  pub few : length new.seat.part.state.entries ≤ 2 ^ 60

-- The seat's table stays, and so do the disk's place and size, the device as the session began on it, and the origin's sectors and block size, of which the marks are.
pub record SameKeeper {D : Type 0} (disk : Ghosts D) (old new : Keeper D) : Type 0 where
  pub table : new.seat.table ≡ old.seat.table
  pub device : SameDisk disk old.meta.slots.disk new.meta.slots.disk
  pub began : first_device new.notes ≡ first_device old.notes
  pub sectors : new.meta.marks.sectors ≡ old.meta.marks.sectors
  pub block_sectors : new.meta.marks.block_sectors ≡ old.meta.marks.block_sectors

-- A draw changes nothing of a keeper but its seat, its entries and its notes.
pub record SameRest {D : Type 0} (old new : Keeper D) : Type 0 where
  pub meta : new.meta ≡ old.meta
  pub table : new.seat.table ≡ old.seat.table
  pub began : first_device new.notes ≡ first_device old.notes

-- Storing an era changes nothing of a keeper but the disk and what is stored there.
pub record SameMemory {D : Type 0} (old new : Keeper D) : Type 0 where
  pub seat : new.seat ≡ old.seat
  pub entries : new.entries ≡ old.entries
  pub notes : new.notes ≡ old.notes
  pub marks : new.meta.marks ≡ old.meta.marks
  pub snapshot : new.meta.snapshot ≡ old.meta.snapshot
