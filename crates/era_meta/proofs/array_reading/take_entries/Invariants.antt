use Rattle.std.proofs.Common.{◌≡◌, ℕ, ◌+◌, ◌*◌, ◌<◌, ◌≤◌, length, get_or}
use Rattle.era_layout.specs.Pages.{entry_at}
use Rattle.era_meta.proofs.array_reading.take_entries.Given as goal

abbrev pub invariant-loop-entry : goal.invariant-loop-entry
invariant-loop-entry l = record {
  size : length l.into ≡ length l.fn.into;
  own : (at : ℕ) → at < l.entry → get_or l.into (1024 * l.index + at) 0 ≡ entry_at l.page at;
  others : (block : ℕ) → (1024 * l.index ≤ block → 1024 * l.index + l.entry ≤ block) → get_or l.into block 0 ≡ get_or l.fn.into block 0;
}
