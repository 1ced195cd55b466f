use Rattle.era_promise.specs.Sessions.{history_below, whole_history}
use Rattle.era_promise.proofs.Places.{moment-below}
use Rattle.era_promise.proofs.Survives.{crash-contents, crash-recovered, lists-right}
use Rattle.era_promise.proofs.laws.changes_survive_crashes.Goals as goal

pub returns : goal.returns
returns g c = λ journal devices follow place era contents m found within crash.
    let h = history_below journal place in
    let legal = c.moments_are_legal.ensures (whole_history journal) h follow.legal.legal (moment-below journal place) in
    lists-right h contents m found era
    (c.no_changed_block_missed.ensures h legal) (c.no_unasked_block_listed.ensures h legal) (c.coverage_goes_on.ensures h legal)
    (crash-recovered g.F.ImageMeaning.stands_for journal devices place contents m found follow within crash)
    (crash-contents g.F.ImageMeaning.stands_for journal devices place contents m found follow within crash)
