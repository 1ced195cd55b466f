use Rattle.era_journal.specs.ActsLog.{log_of}
use Rattle.era_journal.proofs.OwnReadings.{all-own, all-owners}
use Rattle.era_journal.proofs.Stands.{Laws, stand-drew, stand-meet}
use Rattle.era_journal.proofs.owners_laws.owners_draws_are_own.Goals as goal

laws : goal.After-legal_acts_meet_the_model → Laws
laws c = record {
  entries = c.acts_are_a_log.ensures.entries;
  stripe = c.acts_are_a_log.ensures.stripe;
  keeper = c.acts_are_a_log.ensures.keeper;
  histories = c.notes_follow_the_log.ensures.history;
  meet = c.legal_acts_meet_the_model.ensures.model;
}

pub returns-clause-own : goal.returns-clause-own
returns-clause-own c = λ tells opening acts views keeper stand.
    all-own tells opening (log_of opening.stripes acts) (stand-drew (laws c) tells opening acts views keeper stand) (stand-meet (laws c) tells opening acts views keeper stand)

pub returns-clause-owners : goal.returns-clause-owners
returns-clause-owners c = λ tells opening acts views keeper stand.
    all-owners tells opening (log_of opening.stripes acts) (stand-drew (laws c) tells opening acts views keeper stand)
