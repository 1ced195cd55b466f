use Rattle.std.proofs.Common.{◌≡◌, ◌+◌, ◌-◌, ◌*◌, ◌≤◌, ◌++◌, length}
use Rattle.era_layout.specs.Numbers.{u32s_at}
use Rattle.era_layout.specs.Root.{archive_pages}
use Rattle.era_layout.specs.Damage.{sets_at, archive_offset}
use Rattle.era_layout.proofs.checker.read_page_numbers.Given as goal

abbrev pub invariant-loop : goal.invariant-loop
invariant-loop l = record {
  within : l.at ≤ archive_offset l.array l.width + 12 * l.counter;
  room : length l.pages ≤ l.array + l.width + 2 * l.counter;
  same : l.pages ++ archive_pages (sets_at l.bytes l.width l.at (l.count - l.counter))
      ≡ u32s_at l.bytes 40 l.array ++ u32s_at l.bytes (40 + 4 * l.array) l.width ++ archive_pages (sets_at l.bytes l.width (archive_offset l.array l.width) l.count);
}
