use Rattle.era_promise.proofs.LegalLogs.{legal-journal}
use Rattle.era_promise.proofs.owner_laws.owners_journals_are_legal.Goals as goal

pub returns : goal.returns
returns c =
    legal-journal (record {
      keepers = record {
        marks = c.keeper_draws_tell_of_the_marks.ensures.marks;
        era = c.keeper_draws_tell_of_the_marks.ensures.era;
        lasts = c.keeper_draws_tell_of_the_marks.ensures.lasts;
        marked = c.keeper_draws_tell_of_the_marks.ensures.marked;
      };
      stripes = record { flights = c.own_draws_tell_of_their_blocks.ensures.flights; contents = c.own_draws_tell_of_their_blocks.ensures.contents };
    })
