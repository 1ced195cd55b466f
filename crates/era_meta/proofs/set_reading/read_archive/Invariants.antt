use Rattle.std.proofs.Common.{◌≡◌, true, List, length, map, take, drop}
use Rattle.std.specs.List.{AllByRecursion}
use Rattle.era_base.specs.Calls.{SameDisk}
use Rattle.era_model.specs.Marks.{ArchivedSet}
use Rattle.era_meta.specs.Content.{archived_content}
use Rattle.era_meta.specs.Damage.{archive_tests}
use Rattle.era_meta.specs.Meaning.{pages_in}
use Rattle.era_meta.specs.SaysMarks.{SaySets, HasSets}
use Rattle.era_meta.proofs.Walking.{Leads}
use Rattle.era_meta.proofs.set_reading.read_archive.Given as goal

abbrev pub invariant-loop-index : goal.invariant-loop-index
invariant-loop-index g l = record {
  goes : Leads g.D.Disk (List ArchivedSet) (archive_tests l.blocks (drop l.index l.archive)) (archive_tests l.blocks l.archive) l.fn.slots l.slots;
  disk : SameDisk g.D.Disk l.fn.slots.disk l.slots.disk;
  state : g.D.Disk.tells ≡ true → (g.D.Disk.history l.slots.disk).now ≡ (g.D.Disk.history l.fn.slots.disk).now;
  count : length l.sets ≡ l.index;
  says : g.D.Disk.tells ≡ true
      → SaySets l.sets (map (archived_content (pages_in (g.D.Disk.history l.fn.slots.disk).now.seen)) (take l.index l.archive));
  eras : HasSets l.sets (take l.index l.archive);
  sizes : AllByRecursion (λ set. length set.blocks ≡ l.blocks) l.sets;
}
