use Rattle.era_line.specs.Inside.{BeginsWithNoName}
use Rattle.era_line.proofs.CutSteps.{if_none, uncut}
use Rattle.era_line.proofs.table_line.next_name.Goals as goal

-- no space
pub returns-in_err-name-clause-none : goal.returns-in_err-name-clause-none
returns-in_err-name-clause-none c = if_none {P = BeginsWithNoName c.args.text.now} _ (λ name rest is e.
    uncut 32 c.args.text.now name rest c.in_err-name.ensures.none e)
