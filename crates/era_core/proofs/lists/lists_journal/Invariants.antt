use Rattle.std.proofs.Common.{◌≡◌, ℕ, ◌<◌, max, nat_le}
use Rattle.std.specs.Prelude.{reverse}
use Rattle.era_base.specs.Runs.{runs_cover}
use Rattle.era_model.specs.Marking.{journal_last_era}
use Rattle.era_core.proofs.lists.lists_journal.Given as goal

abbrev pub invariant-loop-block : goal.invariant-loop-block
invariant-loop-block l = (block : ℕ) → block < l.block → runs_cover l.listed block ≡ nat_le (max l.since 1) (journal_last_era (reverse l.h) block)
