use Rattle.std.proofs.Common.{◌≡◌, ◌++◌, length, take, drop, true}
use Rattle.era_model.specs.MarkRuns.{flags_of_runs}
use Rattle.era_model.specs.Marks.{transcribed}
use Rattle.era_core.proofs.mark_copies.merge_set.Given as goal

abbrev pub invariant-loop-block : goal.invariant-loop-block
invariant-loop-block l =
    l.entry-items ≡ transcribed (record { era = l.set.era; blocks = flags_of_runs 0 (length l.fn.entries.items) l.set.blocks }) (λ block. true) 0 (take l.block l.fn.entries.items) ++ drop l.block l.fn.entries.items
