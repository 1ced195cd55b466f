use Rattle.std.proofs.Common.{rules}
use Rattle.era_words.proofs.Tables.{no_load}
use Rattle.era_words.proofs.jobs.load_job.Goals as goal

pub returns-in_err-line-clause-usage : goal.returns-in_err-line-clause-usage
returns-in_err-line-clause-usage c = λ is_usage. no_load _ (c.in_err-line.ensures.usage (search rules))
