use Rattle.std.proofs.Common.{◌≡◌, ℕ, ◌<◌, ◌≤◌, true, length, drop, get_or}
use Rattle.era_base.specs.Calls.{SameDisk}
use Rattle.era_slots.specs.Slot.{page_of}
use Rattle.era_meta.specs.Damage.{array_tests}
use Rattle.era_meta.specs.PageParts.{IsArrayPageOf}
use Rattle.era_meta.proofs.Walking.{Leads}
use Rattle.era_meta.proofs.array_reading.read_array.Given as goal

abbrev pub invariant-loop-index : goal.invariant-loop-index
invariant-loop-index g l = record {
  goes : Leads g.D.Disk (Unit {0}) (array_tests (length l.fn.into) l.limit l.index (drop l.index l.numbers)) (array_tests (length l.fn.into) l.limit 0 l.numbers) l.fn.slots l.slots;
  size : length l.into ≡ length l.fn.into;
  disk : SameDisk g.D.Disk l.fn.slots.disk l.slots.disk;
  state : g.D.Disk.tells ≡ true → (g.D.Disk.history l.slots.disk).now ≡ (g.D.Disk.history l.fn.slots.disk).now;
  limited : (entry : ℕ) → get_or l.into entry 0 ≤ l.limit;
  says : g.D.Disk.tells ≡ true → (page : ℕ) → page < l.index
      → IsArrayPageOf l.into page (page_of (get_or l.numbers page 0) (g.D.Disk.history l.fn.slots.disk).now.seen);
}
