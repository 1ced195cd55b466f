use Rattle.era_keeper.proofs.LegalOwn.{legal-own, legal-stands}
use Rattle.era_keeper.proofs.laws.keepers_entries_are_legal.Goals as goal

pub returns-clause-entries : goal.returns-clause-entries
returns-clause-entries c = legal-own

pub returns-clause-stands : goal.returns-clause-stands
returns-clause-stands c = legal-stands
