use Rattle.era_meta.proofs.LastEras.{lists-since}
use Rattle.era_meta.proofs.live_marks.LiveMarks.since.Goals as goal

pub returns : goal.returns
returns c = lists-since c.args.self.now c.args.era c.in_ok-runs.runs c.are_valid.ensures c.as_slice-runs.ensures.runs c.in_ok-runs.ensures
