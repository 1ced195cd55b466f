use Rattle.std.proofs.Common.{◌≡◌, ℕ, ◌<◌, ◌≤◌, false}
use Rattle.era_layout.specs.Pages.{flag_at}
use Rattle.era_layout.proofs.bits_page.check_bits_page.Given as goal

abbrev pub invariant-loop-index : goal.invariant-loop-index
invariant-loop-index l = (index : ℕ) → l.bits ≤ index → index < l.index → flag_at l.bytes index ≡ false
