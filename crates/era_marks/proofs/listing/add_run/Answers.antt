use Rattle.era_marks.proofs.RunLists.{adds-none, adds-some}
use Rattle.era_marks.proofs.listing.add_run.Goals as goal

pub returns-in_ok-push : goal.returns-in_ok-push
returns-in_ok-push c = rw c.in_ok-push.ensures.ok (adds-some c.args.runs.now c.args.begin c.args.end c.if-begin-end.true c.requires.behind)

pub returns-else-begin-end : goal.returns-else-begin-end
returns-else-begin-end c = adds-none c.args.runs.now c.args.begin c.args.end c.requires.order c.if-begin-end.false c.requires.behind
