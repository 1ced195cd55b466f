use Rattle.std.proofs.Common.{◌≡◌, ◌+◌, true, length, map, take}
use Rattle.era_base.specs.CrashModel.{Went, clock}
use Rattle.era_base.specs.Calls.{Now, SameDisk}
use Rattle.era_layout.specs.Root.{archive_pages, AreDifferent}
use Rattle.era_slots.specs.Calls.{StandFor, SameSlots}
use Rattle.era_meta.specs.Content.{archived_content}
use Rattle.era_meta.specs.Meaning.{pages_in}
use Rattle.era_meta.specs.Putting.{PutsAmong}
use Rattle.era_meta.specs.SaysMarks.{SaySets}
use Rattle.era_meta.proofs.set_pages.put_sets.Given as goal

abbrev pub invariant-loop-index : goal.invariant-loop-index
invariant-loop-index g l = record {
  went : g.D.Disk.tells ≡ true → Went (PutsAmong (archive_pages l.archive) l.fn.slots.target l.fn.slots.number) (g.D.Disk.history l.fn.slots.disk) (g.D.Disk.history l.slots.disk);
  stands : Now g.D.Disk (StandFor l.slots) l.slots.disk;
  put : g.D.Disk.tells ≡ true → AreDifferent (archive_pages l.archive)
      → SaySets (take l.index l.sets) (map (archived_content (pages_in (g.D.Disk.history l.slots.disk).now.seen)) (take l.index l.archive));
  calls : g.D.Disk.tells ≡ true → clock (g.D.Disk.history l.slots.disk) ≡ clock (g.D.Disk.history l.fn.slots.disk) + length (archive_pages (take l.index l.archive));
  slots : SameSlots l.fn.slots l.slots;
  disk : SameDisk g.D.Disk l.fn.slots.disk l.slots.disk;
  faults : g.D.Disk.faults l.slots.disk ≡ g.D.Disk.faults l.fn.slots.disk;
}
