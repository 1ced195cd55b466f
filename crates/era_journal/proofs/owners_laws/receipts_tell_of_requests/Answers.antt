use Rattle.std.proofs.Common.{None, ap, subst, ◌∙◌, inl, inr}
use Rattle.std.proofs.lemmas.Bool.{cases_lt}
use Rattle.era_gate.specs.Receipts.{entries_for}
use Rattle.era_journal.specs.ActsLog.{log_of}
use Rattle.era_gate.specs.Requests.{MarksStandBehindRequests}
use Rattle.era_journal.proofs.Requests.{lanes-follow, none-stand}
use Rattle.era_journal.proofs.owners_laws.receipts_tell_of_requests.Goals as goal

pub returns-clause-all : goal.returns-clause-all
returns-clause-all c = λ opening acts stand.
    lanes-follow opening (log_of opening.stripes acts)
    (λ l. subst (MarksStandBehindRequests None)
    (c.lanes_have_their_receipts.ensures.entries l opening.era acts ∙ ap (entries_for l) (c.acts_are_a_log.ensures.entries opening.stripes acts))
    (stand l))

pub returns-clause-below : goal.returns-clause-below
returns-clause-below c = λ opening acts lanes below stand.
    lanes-follow opening (log_of opening.stripes acts)
    (λ l. subst (λ es. MarksStandBehindRequests None (entries_for l es)) (c.acts_are_a_log.ensures.entries opening.stripes acts)
    (elim (cases_lt l lanes) [
      | inl low ↦ subst (MarksStandBehindRequests None) (c.lanes_have_their_receipts.ensures.entries l opening.era acts) (stand l low)
      | inr high ↦ none-stand l lanes _ high below
    ]))

pub returns-clause-legal : goal.returns-clause-legal
returns-clause-legal c = λ opening acts legal stand.
    returns-clause-below c opening acts 65 (c.lanes_have_their_receipts.ensures.few opening.stripes opening.era acts legal) stand
