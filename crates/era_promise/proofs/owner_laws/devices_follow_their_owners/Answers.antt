use Rattle.era_promise.proofs.OwnersFollow.{owners-follow}
use Rattle.era_promise.proofs.owner_laws.devices_follow_their_owners.Goals as goal

pub returns : goal.returns
returns g c =
    owners-follow
    (record {
      below = c.notes_follow_the_log.ensures.below;
      history = c.notes_follow_the_log.ensures.history;
      flights = c.own_draws_tell_of_their_blocks.ensures.flights;
      parts = c.parts_follow_the_log.ensures;
      recovered = c.recovered_marks_follow_the_log.ensures;
    })
    g.F.ImageMeaning.stands_for g.F.ImageMeaning.is_blank
