use Rattle.std.proofs.Common.{[], ◌∷◌, take}
use Rattle.era_model.specs.Journal.{history_after}
use Rattle.era_model.specs.declared.history.Happening.TheVariants.{Opened}
use Rattle.era_model.proofs.Histories.{history_after-more}
use Rattle.era_model.proofs.plain_calls.is_asked.Goals as goal

-- one more event was followed
pub loop-entry-preserved : goal.loop-entry-preserved
loop-entry-preserved c =
    let opened = Opened c.args.journal.now.opening ∷ [] in
    let l = c.loop-entry in
    let entries = c.split_at.result.0.now in
    let more = history_after-more opened entries l.entry-index c.entry-item.result c.loop-entry-test.true c.entry-item.is in
    rw more (c.follow_asked-asked.ensures (history_after opened (take l.entry-index entries)) l.invariant)
