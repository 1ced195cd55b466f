use Rattle.std.proofs.Common.{◌≡◌, drop, length, take}
use Rattle.std.specs.List.{AllByRecursion}
use Rattle.era_meta.specs.AsRuns.{TellSets}
use Rattle.era_meta.proofs.taken_runs.take_sets.Given as goal

-- the sets so far are archived
abbrev pub invariant-loop-set : goal.invariant-loop-set
invariant-loop-set l = record {
  sizes : AllByRecursion (λ set. length set.blocks ≡ l.blocks) l.archive;
  told : TellSets (take l.set-index l.sets) l.blocks l.archive;
  count : length l.archive ≡ l.set-index;
  spare : l.spare ≡ drop l.set-index l.fn.spare;
}
