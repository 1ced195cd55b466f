use Rattle.std.proofs.Common.{◌≡◌, ℕ, ◌<◌, false, get_or}
use Rattle.era_model.specs.Writes.{is_written_at}
use Rattle.era_core.proofs.images.is_same_outside.Given as goal

abbrev pub invariant-loop-offset : goal.invariant-loop-offset
invariant-loop-offset l = (offset : ℕ) → offset < l.offset → is_written_at l.writes l.block offset ≡ false → get_or l.image offset 0 ≡ get_or l.content offset 0
