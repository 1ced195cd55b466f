use Rattle.std.proofs.Common.{◌∙◌}
use Rattle.era_journal.proofs.owners_laws.collected_entries_are_of_the_log.Goals as goal

pub returns : goal.returns
returns c = λ plan places parts kept lanes acts entries tells collected.
    c.collected_journals_are_legal.ensures.drawn plan places parts kept lanes acts entries tells collected ∙ c.acts_are_a_log.ensures.entries plan.stripes acts
