use Rattle.era_core.proofs.EntryRuns.{EntriesSoFar}
use Rattle.era_core.proofs.entries.runs_of_entries.Given as goal

abbrev pub invariant-loop-index : goal.invariant-loop-index
invariant-loop-index l = EntriesSoFar l.entries l.runs l.first l.era l.index
