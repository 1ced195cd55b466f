use Rattle.std.proofs.Common.{ℕ}
use Rattle.era_base.proofs.RunLists.{are_runs-push}
use Rattle.era_base.proofs.runs.Runs.push.Goals as goal

-- the run was added behind the others
pub invariant_of-self-2 : goal.invariant_of-self-2
invariant_of-self-2 c =
    let run : ℕ × ℕ = (c.args.first, c.args.last) in
    rw c.in_ok-push.ensures.items (are_runs-push c.self.inside.runs.items run c.self.invariant (rw (← c.self.view_is) at c.requires.behind) c.requires.some)
