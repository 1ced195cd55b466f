use Rattle.era_journal.specs.ActsLog.{log_of}
use Rattle.era_journal.proofs.Stands.{Laws, stand-drew, stand-meet}
use Rattle.era_journal.proofs.ToldReadings.{all-told}
use Rattle.era_journal.proofs.owners_laws.owners_draws_are_told.Goals as goal

laws : goal.After-told_counts_ascend → Laws
laws c = record {
  entries = c.acts_are_a_log.ensures.entries;
  stripe = c.acts_are_a_log.ensures.stripe;
  keeper = c.acts_are_a_log.ensures.keeper;
  histories = c.notes_follow_the_log.ensures.history;
  meet = c.legal_acts_meet_the_model.ensures.model;
}

pub returns : goal.returns
returns c = λ tells opening acts views keeper stand.
    all-told (record { disks = c.owners_draw_at_their_disks.ensures.disks; counts = c.told_counts_ascend.ensures }) tells opening (log_of opening.stripes acts) stand.contents
    (c.owners_draws_are_own.ensures.own tells opening acts views keeper stand) (c.owners_draws_are_own.ensures.owners tells opening acts views keeper stand)
    (stand-drew (laws c) tells opening acts views keeper stand) (stand-meet (laws c) tells opening acts views keeper stand) stand.marks
