use Rattle.std.proofs.Common.{◌≡◌, [], ◌∷◌, take}
use Rattle.era_model.specs.History.{content, in_flight}
use Rattle.era_model.specs.Journal.{history_after}
use Rattle.era_model.specs.declared.history.Happening.TheVariants.{Opened}
use Rattle.era_model.proofs.plain_calls.content_at.Given as goal

abbrev pub invariant-loop-entry : goal.invariant-loop-entry
invariant-loop-entry l = let h = history_after (Opened l.journal.opening ∷ []) (take l.entry-index l.entry-items) in record {
  bytes : l.bytes ≡ content h l.block;
  writes : l.writes.items ≡ in_flight h;
}
