use Rattle.era_model.specs.MarkRuns.{SetsEndWithin}
use Rattle.era_schedules.proofs.small_images.many_sets.Given as goal

abbrev pub invariant-loop-before : goal.invariant-loop-before
invariant-loop-before l = SetsEndWithin 64 l.sets
