-- The steps of a keeper's calls: events that leave the marks as they are, and counts of faults.
use Rattle.std.specs.Prelude.{◌≡◌, ℕ, ◌+◌, ◌*◌, ◌^◌, ◌<◌, ◌≤◌, Bool, true, false, length}
use Rattle.era_base.specs.Faults.{Rose}
use Rattle.era_base.specs.declared.disk.Disk.{Ghosts}
use Rattle.era_base.specs.declared.ids.CmdId.{CmdId}
use Rattle.era_base.specs.declared.limits.TheConstants.{LAST_ERA}
use Rattle.era_gate.specs.Calls.{GateToken, PassToken, has_lane}
use Rattle.era_keeper.specs.declared.keeper.Keeper.{Keeper}
use Rattle.era_meta.specs.MetaCalls.{IsStanding}
use Rattle.era_model.specs.declared.event.Event.{Event}
use Rattle.era_model.specs.declared.event.Event.TheVariants.{Tried, Kept, List as ListEvent, Status, Refused}
use Rattle.era_notes.specs.Rooms.{free_in}
use Rattle.era_notes.specs.Notes.{notes_of, last_faults, least_of, told_count, TellsRisen}

-- The event leaves the marks, the snapshot and the era as they are. But for a refusal it isn't drawn while the era stands in memory alone.
abbrev pub IsQuiet : Bool → Event → Type 0
IsQuiet unstored (Tried id block era) = unstored ≡ false
IsQuiet unstored (Kept id inside) = unstored ≡ false
IsQuiet unstored (ListEvent id since snap blocks) = unstored ≡ false
IsQuiet unstored (Status id used total era held) = unstored ≡ false
IsQuiet unstored (Refused id kind why) = Unit {0}
IsQuiet unstored event = ⊥

-- The disk's count of faults at the keeper's last entry, or as the session began.
abbrev pub last_count_of : {D : Type 0} → Ghosts D → Keeper D → ℕ
last_count_of disk keeper = last_faults (least_of disk keeper.notes) (notes_of disk keeper.notes)

-- A count that the event tells, if there is one, is the present one of the disk, which rose since the keeper's last entry.
abbrev pub TellsNewCount : {D : Type 0} → Ghosts D → Keeper D → Event → Type 0
TellsNewCount disk keeper event = TellsRisen (told_count event) (last_count_of disk keeper) (disk.faults keeper.meta.slots.disk)

-- A count of faults is the present one of the disk, which rose since the keeper's last entry.
pub record IsNewCount {D : Type 0} (disk : Ghosts D) (keeper : Keeper D) (count : ℕ) : Type 0 where
  pub present : count ≡ disk.faults keeper.meta.slots.disk
  pub rose : Rose (last_count_of disk keeper) count

-- An exchange has moved to an era whose switch isn't drawn: the marks are of the era before, and stored.
pub record IsMoved {D : Type 0} (disk : Ghosts D) (gate : GateToken) (keeper : Keeper D) (pass : PassToken) (id : CmdId) (era : ℕ) : Type 0 where
  pub standing : IsStanding disk keeper.meta
  pub stored : keeper.meta.unstored ≡ false
  pub below : keeper.meta.marks.era < LAST_ERA
  pub next : era ≡ keeper.meta.marks.era + 1
  pub word : keeper.seat.part.state.era ≡ era
  pub undrawn : keeper.seat.part.state.switched ≡ false
  pub numbers : keeper.meta.slots.number ≤ 2 ^ 62 + 2 * length keeper.seat.part.state.entries + 1
  pub few : length keeper.seat.part.state.entries ≤ 2 ^ 60
  pub table : keeper.seat.table ≡ gate.table
  pub pass_table : pass.table ≡ gate.table
  pub lane : has_lane id.lane pass.part.lanes ≡ true
  pub budget : 2 ≤ pass.part.budget
  pub room : 2 ≤ free_in keeper.entries
