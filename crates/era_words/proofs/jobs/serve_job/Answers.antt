use Rattle.std.proofs.Common.{rules}
use Rattle.era_words.proofs.Tables.{no_session}
use Rattle.era_words.proofs.jobs.serve_job.Goals as goal

pub returns-in_err-line-clause-usage : goal.returns-in_err-line-clause-usage
returns-in_err-line-clause-usage c = λ is_usage. no_session _ (c.in_err-line.ensures.usage (search rules))
