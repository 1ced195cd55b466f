use Rattle.std.proofs.Common.{sym, ◌∙◌}
use Rattle.era_core.proofs.Upkeeping.{keeps-metadata, keeps-origin, on_ok-three, on_ok-two}
use Rattle.era_core.proofs.upkeep.Upkeep.follow.Goals as goal

-- the marks or the snapshot have changed
pub returns-then-is_of_metadata-clause-ok : goal.returns-then-is_of_metadata-clause-ok
returns-then-is_of_metadata-clause-ok c = λ h open_now keeps.
    let new = c.follow_metadata.ensures in
    let changes = sym c.is_of_metadata.ensures ∙ c.if-is_of_metadata.true in
    on_ok-three c.follow_metadata.result
    (λ marking snapshot pushed. rw (new.origin.0, new.origin.1) (keeps-metadata h c.args.event.now _ _ _ _ _ _ _ _ open_now changes keeps marking snapshot pushed))
    (new.marks h keeps.marking) (new.held h keeps.marking keeps.snapshot) new.past

-- they have not
pub returns-else-is_of_metadata-clause-ok : goal.returns-else-is_of_metadata-clause-ok
returns-else-is_of_metadata-clause-ok c = λ h open_now keeps.
    let new = c.follow_origin.ensures in
    let leaves = sym c.is_of_metadata.ensures ∙ c.if-is_of_metadata.false in
    on_ok-two c.follow_origin.result
    (λ flight contents. rw (new.metadata.0, new.metadata.1, new.metadata.2) (keeps-origin h c.args.event.now _ _ _ _ _ _ _ open_now leaves keeps flight contents))
    (new.flight h keeps.flight) (new.contents h keeps.flight keeps.content)
