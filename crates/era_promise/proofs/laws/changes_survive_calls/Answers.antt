use Rattle.era_promise.proofs.CallsInARow.{calls-survive}
use Rattle.era_promise.proofs.laws.changes_survive_calls.Goals as goal

pub returns : goal.returns
returns g c =
    calls-survive
    (record {
      moments = c.moments_are_legal.ensures;
      switched = c.marks_follow_journal.ensures.switch;
      behind = c.sessions_stand_by_themselves.ensures.legal;
      crash = c.sessions_stand_by_themselves.ensures.crash;
      reads = c.disk_as_it_reads_is_an_image.ensures;
    })
    c.no_changed_block_missed.ensures c.no_unasked_block_listed.ensures c.coverage_goes_on.ensures
    g.F.ImageMeaning.stands_for g.F.ImageMeaning.is_blank
