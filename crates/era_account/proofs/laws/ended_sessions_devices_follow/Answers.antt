use Rattle.std.proofs.Common.{subst}
use Rattle.era_journal.specs.OwnersStand.{OwnersStand}
use Rattle.era_keeper.specs.Keepers.{view_of as keeper_view}
use Rattle.era_session.specs.Ends.{stripe_views}
use Rattle.era_account.proofs.laws.ended_sessions_devices_follow.Goals as goal

pub returns-clause-follow : goal.returns-clause-follow
returns-clause-follow g c = λ told journal session places acts ended.
    let views = stripe_views g.D.Disk session.stripes.items in
    let keeper = keeper_view g.D.Disk session.keeper in
    c.owners_devices_follow.ensures.follow journal acts views keeper
    (subst (λ tells. OwnersStand tells journal.opening acts views keeper) told (c.owners_stand_at_the_end.ensures journal session places acts ended)) ended.entries

pub returns-clause-survive : goal.returns-clause-survive
returns-clause-survive g c = λ told journal session places acts ended.
    let views = stripe_views g.D.Disk session.stripes.items in
    let keeper = keeper_view g.D.Disk session.keeper in
    c.owners_devices_follow.ensures.survive journal acts views keeper
    (subst (λ tells. OwnersStand tells journal.opening acts views keeper) told (c.owners_stand_at_the_end.ensures journal session places acts ended)) ended.entries
