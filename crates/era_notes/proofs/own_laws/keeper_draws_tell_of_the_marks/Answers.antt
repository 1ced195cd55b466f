use Rattle.std.proofs.Common.{Option, ap}
use Rattle.era_model.specs.History.{era_of}
use Rattle.era_model.specs.Marking.{is_marked_in, is_tried_in, journal_last_era}
use Rattle.era_model.specs.Marks.{BlockMarks}
use Rattle.era_notes.proofs.KeeperWords.{projects, keepers-era, keepers-last, keepers-tried, keepers-marked, keepers-held, marks_and_held}
use Rattle.era_notes.proofs.own_laws.keeper_draws_tell_of_the_marks.Goals as goal

pub returns-clause-marks : goal.returns-clause-marks
returns-clause-marks c = λ opening keeper log draws.
    let both = projects marks_and_held opening keeper log keepers-held draws in
    (ap (λ (word : BlockMarks × Option BlockMarks). word.0) both, ap (λ (word : BlockMarks × Option BlockMarks). word.1) both)

pub returns-clause-era : goal.returns-clause-era
returns-clause-era c = λ opening keeper log draws. projects era_of opening keeper log keepers-era draws

pub returns-clause-lasts : goal.returns-clause-lasts
returns-clause-lasts c = λ opening keeper log block draws. projects (λ h. journal_last_era h block) opening keeper log (keepers-last block) draws

pub returns-clause-tried : goal.returns-clause-tried
returns-clause-tried c = λ opening keeper log block era draws. projects (λ h. is_tried_in h block era) opening keeper log (keepers-tried block era) draws

pub returns-clause-marked : goal.returns-clause-marked
returns-clause-marked c = λ opening keeper log block era draws. projects (λ h. is_marked_in h block era) opening keeper log (keepers-marked block era) draws
