use Rattle.std.proofs.Common.{ℕ, ◌<◌}
use Rattle.std.specs.Prelude.{reverse}
use Rattle.era_model.specs.Recovered.{HasJournalLast}
use Rattle.era_core.proofs.recovery.others_agree.Given as goal

abbrev pub invariant-loop-block : goal.invariant-loop-block
invariant-loop-block l = (block : ℕ) → l.exception < block → block < l.block → HasJournalLast (reverse l.h) l.m block
