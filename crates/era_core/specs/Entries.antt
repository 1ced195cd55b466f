-- Runs of the era array that are made of entries.
use Rattle.std.specs.Prelude.{◌≡◌, ℕ, ◌<◌, ◌≤◌, List}
use Rattle.era_model.specs.EraRuns.{EndWithin}
use Rattle.era_model.specs.MarkRuns.{era_in_runs}

-- The blocks from the first one up to an end, without it, have the era, and those before keep theirs. For no blocks nothing is added.
pub record AddsEntries (before after : List (ℕ × ℕ × ℕ)) (first end era : ℕ) : Type 0 where
  pub kept : (block : ℕ) → block < first → era_in_runs after block ≡ era_in_runs before block
  pub added : (block : ℕ) → first ≤ block → block < end → era_in_runs after block ≡ era
  pub none : first ≡ end → after ≡ before
  pub within : EndWithin first before → EndWithin end after
