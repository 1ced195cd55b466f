use Rattle.era_model.proofs.LegalSnapshots.{illegal-early_refusal}
use Rattle.era_model.proofs.laws.refusal_without_cause_is_illegal.Goals as goal

pub returns : goal.returns
returns c = illegal-early_refusal
