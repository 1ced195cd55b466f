use Rattle.std.proofs.Common.{◌≡◌, [], ◌∷◌, take}
use Rattle.era_model.specs.Journal.{history_after}
use Rattle.era_model.specs.Marking.{asked_since}
use Rattle.era_model.specs.declared.history.Happening.TheVariants.{Opened}
use Rattle.era_model.proofs.plain_calls.is_asked.Given as goal

abbrev pub invariant-loop-entry : goal.invariant-loop-entry
invariant-loop-entry l = l.asked ≡ asked_since (history_after (Opened l.journal.opening ∷ []) (take l.entry-index l.entry-items)) l.era l.block
