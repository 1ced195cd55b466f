use Rattle.era_words.proofs.OneJob.{one_job}
use Rattle.era_words.proofs.laws.one_job.Goals as goal

pub returns : goal.returns
returns c = one_job
