use Rattle.std.proofs.Common.{ℕ, ◌<◌, ◌≤◌}
use Rattle.era_layout.specs.Pages.{entry_at}
use Rattle.era_layout.proofs.array_page.has_entry_above.Given as goal

abbrev pub invariant-loop-index : goal.invariant-loop-index
invariant-loop-index l = (index : ℕ) → l.first ≤ index → index < l.index → entry_at l.bytes index ≤ l.limit
