use Rattle.std.proofs.Common.{◌≡◌, ℕ, ◌<◌, ◌&&◌, max, length, if◌then◌else◌}
use Rattle.std.specs.Prelude.{nat_le, nat_lt, slice_index}
use Rattle.era_text.proofs.merge.raise_run.Given as goal

-- the entries of the run so far were raised, and the others are as they were
abbrev pub invariant-loop-index : goal.invariant-loop-index
invariant-loop-index l = (block : ℕ) → block < length l.initial.entries
    → slice_index l.entries block ≡ max (slice_index l.initial.entries block) (if nat_le l.first block && nat_lt block l.index then l.era else 0)
