use Rattle.std.proofs.Common.{ℕ, ◌+◌, List, [], ◌∷◌, take, nat_le}
use Rattle.era_model.specs.Journal.{history_after}
use Rattle.era_model.specs.declared.history.Happening.{Happening}
use Rattle.era_model.specs.declared.history.Happening.TheVariants.{Happened, Opened}
use Rattle.era_model.proofs.Histories.{era_start-more, history_after-more, start-within}
use Rattle.era_model.proofs.plain_calls.start_of.Goals as goal

-- one more event was followed
pub loop-index-preserved : goal.loop-index-preserved
loop-index-preserved c =
    let opened = Opened c.args.journal.now.opening ∷ [] in
    let l = c.loop-index in
    let entries = c.split_at.result.0.now in
    let of : ℕ → List Happening = λ place. history_after opened (take place entries) in
    let more = history_after-more opened entries l.index c.entry-item.result c.loop-index-test.true c.entry-item.is in
    let era = c.follow_era-now.ensures (of l.index) l.invariant.era in
    record {
      era = rw more era;
      wanted = l.invariant.wanted;
      start = rw more (era_start-more c.args.era c.max-wanted.result c.follow_era-now.result (l.index + 1) (Happened c.entry-item.result.event) (of l.index) of l.start
          c.first_start-start-in-loop-index.result era l.invariant.wanted more l.invariant.start c.first_start-start-in-loop-index.ensures);
      before = start-within l.index (nat_le c.max-wanted.result c.follow_era-now.result) l.start c.first_start-start-in-loop-index.result l.invariant.before
          c.first_start-start-in-loop-index.ensures;
    }
