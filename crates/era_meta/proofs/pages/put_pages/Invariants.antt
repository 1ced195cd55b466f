use Rattle.std.proofs.Common.{◌≡◌, ℕ, ◌+◌, ◌<◌, true, get_or}
use Rattle.era_base.specs.CrashModel.{Went, clock}
use Rattle.era_base.specs.Calls.{Now, SameDisk}
use Rattle.era_layout.specs.Root.{AreDifferent}
use Rattle.era_slots.specs.Calls.{StandFor, SameSlots}
use Rattle.era_slots.specs.Slot.{page_of}
use Rattle.era_meta.specs.Putting.{PutsAmong}
use Rattle.era_meta.proofs.pages.put_pages.Given as goal

abbrev pub invariant-loop-index : goal.invariant-loop-index
invariant-loop-index g l = record {
  went : g.D.Disk.tells ≡ true → Went (PutsAmong l.blocks l.fn.slots.target l.fn.slots.number) (g.D.Disk.history l.fn.slots.disk) (g.D.Disk.history l.slots.disk);
  stands : Now g.D.Disk (StandFor l.slots) l.slots.disk;
  put : g.D.Disk.tells ≡ true → AreDifferent l.blocks → (k : ℕ) → k < l.index
      → g.P.PageSource.says l.source k (page_of (get_or l.blocks k 0) (g.D.Disk.history l.slots.disk).now.seen);
  calls : g.D.Disk.tells ≡ true → clock (g.D.Disk.history l.slots.disk) ≡ clock (g.D.Disk.history l.fn.slots.disk) + l.index;
  slots : SameSlots l.fn.slots l.slots;
  disk : SameDisk g.D.Disk l.fn.slots.disk l.slots.disk;
  faults : g.D.Disk.faults l.slots.disk ≡ g.D.Disk.faults l.fn.slots.disk;
}
