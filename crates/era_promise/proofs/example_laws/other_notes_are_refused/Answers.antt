use Rattle.era_promise.proofs.Refusals.{invented-note, left-out}
use Rattle.era_promise.proofs.example_laws.other_notes_are_refused.Goals as goal

pub returns-clause-invented : goal.returns-clause-invented
returns-clause-invented c = invented-note

pub returns-clause-left_out : goal.returns-clause-left_out
returns-clause-left_out c = left-out
