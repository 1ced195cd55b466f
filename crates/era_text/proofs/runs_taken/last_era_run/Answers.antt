use Rattle.std.proofs.Common.{◌∙◌}
use Rattle.era_text.proofs.PushedRuns.{last-got}
use Rattle.era_text.proofs.runs_taken.last_era_run.Goals as goal

pub returns : goal.returns
returns c = c.copied.ensures ∙ c.last.ensures.value ∙ last-got c.args.runs.now
