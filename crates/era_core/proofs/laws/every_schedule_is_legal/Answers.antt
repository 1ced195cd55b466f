use Rattle.era_model.specs.declared.opening.Opening.{Opening}
use Rattle.era_model.specs.Legal.{IsLegal}
use Rattle.std.proofs.Common.{List}
use Rattle.era_core.specs.declared.step.Step.{Step}
use Rattle.era_core.specs.Machine.{CoreState, opened_core}
use Rattle.era_core.specs.Schedules.{IsSchedule}
use Rattle.era_core.proofs.Accepted.{accepted-legal, run-legal}
use Rattle.era_core.proofs.Sessions.{alone-legal}
use Rattle.era_core.proofs.laws.every_schedule_is_legal.Goals as goal

-- a schedule's history is legal
schedule-legal : (opening : Opening) (steps : List Step) (last : CoreState) → IsSchedule opening steps last → IsLegal last.history
schedule-legal opening steps last schedule = run-legal (opened_core opening) last steps (schedule.opens, tt) schedule.ran

pub returns : goal.returns
returns c = record {
  step = accepted-legal;
  legal = schedule-legal;
  sessions = λ opening steps last schedule moment is open_now.
      alone-legal c.marks_follow_journal.ensures.journal moment (c.moments_are_legal.ensures last.history moment (schedule-legal opening steps last schedule) is) open_now;
  missed = λ opening steps last schedule. c.no_changed_block_missed.ensures last.history (schedule-legal opening steps last schedule);
  asked = λ opening steps last schedule. c.no_unasked_block_listed.ensures last.history (schedule-legal opening steps last schedule);
  covered = λ opening steps last schedule. c.coverage_goes_on.ensures last.history (schedule-legal opening steps last schedule);
}
