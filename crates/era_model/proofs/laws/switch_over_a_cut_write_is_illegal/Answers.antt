use Rattle.era_model.proofs.LegalFaults.{illegal-early_switch}
use Rattle.era_model.proofs.laws.switch_over_a_cut_write_is_illegal.Goals as goal

pub returns : goal.returns
returns c = illegal-early_switch
