use Rattle.era_model.proofs.EraRunLists.{are_era_runs-push}
use Rattle.era_model.proofs.era_runs.EraRuns.push.Goals as goal

-- the run was added behind the others
pub invariant_of-self-2 : goal.invariant_of-self-2
invariant_of-self-2 c =
    rw c.in_ok-push.ensures.items (are_era_runs-push c.self.inside.runs.items (c.args.first, c.args.last, c.args.era)
    c.self.invariant (rw c.self.view_is c.requires.behind) c.requires.some c.requires.era)
