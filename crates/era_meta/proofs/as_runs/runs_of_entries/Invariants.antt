use Rattle.std.proofs.Common.{◌≡◌, ℕ, ◌<◌, ◌≤◌, length}
use Rattle.std.specs.Prelude.{slice_index}
use Rattle.era_model.specs.EraRuns.{StandsBehindAll}
use Rattle.era_meta.specs.AsRuns.{TellEntries}
use Rattle.era_meta.proofs.as_runs.runs_of_entries.Given as goal

-- the blocks from the first of the present run on have its era so far, and the runs before it tell the entries of those before
abbrev pub invariant-loop-index : goal.invariant-loop-index
invariant-loop-index l = record {
  begun : (l.first ≤ l.index) × (l.first < length l.entries);
  start : slice_index l.entries l.first ≡ l.era;
  same : (block : ℕ) → l.first ≤ block → block < l.index → slice_index l.entries block ≡ l.era;
  listed : TellEntries l.runs l.first l.entries;
  stands : StandsBehindAll l.runs (l.first, l.first, l.era);
}
