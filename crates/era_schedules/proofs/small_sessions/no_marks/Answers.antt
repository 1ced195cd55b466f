use Rattle.era_schedules.proofs.SmallMarks.{valid-no_runs}
use Rattle.era_schedules.proofs.small_sessions.no_marks.Goals as goal

-- no block is marked
pub returns-clause-valid : goal.returns-clause-valid
returns-clause-valid c = rw (c.new.ensures, c.new-2.ensures, c.new-3.ensures) (valid-no_runs c.args.geometry c.args.era c.requires)
