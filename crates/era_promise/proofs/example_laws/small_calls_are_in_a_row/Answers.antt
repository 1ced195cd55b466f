use Rattle.era_promise.proofs.SmallCalls.{calls-history, calls-run}
use Rattle.era_promise.proofs.example_laws.small_calls_are_in_a_row.Goals as goal

pub returns-clause-calls : goal.returns-clause-calls
returns-clause-calls c = calls-run c.clean_disk_has_one_image.ensures

pub returns-clause-history : goal.returns-clause-history
returns-clause-history c = calls-history
