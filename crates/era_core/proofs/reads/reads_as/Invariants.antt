use Rattle.std.proofs.Common.{◌≡◌, ℕ, ◌+◌, ◌<◌, false, get_or}
use Rattle.era_model.specs.Writes.{is_cut_at}
use Rattle.era_core.proofs.reads.reads_as.Given as goal

abbrev pub invariant-loop-offset : goal.invariant-loop-offset
invariant-loop-offset l = (offset : ℕ) → offset < l.offset → is_cut_at l.writes l.block (l.start + offset) ≡ false
    → get_or l.bytes offset 0 ≡ get_or l.content (l.start + offset) 0
