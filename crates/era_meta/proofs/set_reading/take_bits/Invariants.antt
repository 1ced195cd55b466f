use Rattle.std.proofs.Common.{◌≡◌, ℕ, ◌+◌, ◌*◌, ◌<◌, ◌≤◌, false, length}
use Rattle.era_base.specs.Flags.{has}
use Rattle.era_layout.specs.Pages.{flag_at}
use Rattle.era_meta.proofs.set_reading.take_bits.Given as goal

abbrev pub invariant-loop-bit : goal.invariant-loop-bit
invariant-loop-bit l = record {
  size : length l.into ≡ length l.fn.into;
  own : (at : ℕ) → at < l.bit → has l.into (32768 * l.index + at) ≡ flag_at l.page at;
  clear : (block : ℕ) → 32768 * l.index + l.bit ≤ block → has l.into block ≡ false;
  before : (block : ℕ) → block < 32768 * l.index → has l.into block ≡ has l.fn.into block;
}
