use Rattle.era_promise.proofs.KeepersConditions.{keepers-may}
use Rattle.era_promise.proofs.owner_laws.keepers_events_follow_the_log.Goals as goal

pub returns : goal.returns
returns c =
    keepers-may (record {
      marks = c.keeper_draws_tell_of_the_marks.ensures.marks;
      era = c.keeper_draws_tell_of_the_marks.ensures.era;
      lasts = c.keeper_draws_tell_of_the_marks.ensures.lasts;
      marked = c.keeper_draws_tell_of_the_marks.ensures.marked;
    })
