use Rattle.std.proofs.Common.{[], ◌∷◌, take}
use Rattle.era_model.specs.Journal.{history_after}
use Rattle.era_model.specs.declared.history.Happening.TheVariants.{Opened}
use Rattle.era_model.proofs.Histories.{history_after-more}
use Rattle.era_model.proofs.plain_calls.content_at.Goals as goal

-- one more event was followed
pub loop-entry-preserved : goal.loop-entry-preserved
loop-entry-preserved c =
    let opened = Opened c.args.journal.now.opening ∷ [] in
    let l = c.loop-entry in
    let entries = c.split_at.result.0.now in
    let h = history_after opened (take l.entry-index entries) in
    let more = history_after-more opened entries l.entry-index c.entry-item.result c.loop-entry-test.true c.entry-item.is in
    record {
      bytes = rw more (c.in_ok-bytes-2.ensures h (rw c.as_slice-in-loop-entry.ensures.value l.invariant.writes) l.invariant.bytes);
      writes = rw more (c.in_ok-follow_writes.ensures.ok h l.invariant.writes);
    }
