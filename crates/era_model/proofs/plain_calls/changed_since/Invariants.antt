use Rattle.std.proofs.Common.{◌≡◌, ℕ, ◌<◌, vec_len}
use Rattle.era_base.specs.Flags.{has}
use Rattle.era_model.specs.Journal.{history_at}
use Rattle.era_model.specs.PlainCalls.{has_changed_since}
use Rattle.era_model.proofs.plain_calls.changed_since.Given as goal

abbrev pub invariant-loop-block : goal.invariant-loop-block
invariant-loop-block l = let h = history_at l.journal.opening l.journal.entries l.place in record {
  size : vec_len l.flags ≡ l.block;
  flags : (block : ℕ) → block < l.block → has l.flags.items block ≡ has_changed_since h l.era block;
}
