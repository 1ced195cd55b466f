use Rattle.std.proofs.Common.{◌+◌, List, refl, ap, ◌∙◌}
use Rattle.std.specs.Prelude.{filter}
use Rattle.era_gate.specs.declared.parts.LanePart.{LanePart}
use Rattle.era_gate.proofs.PassCuts.{below, above}
use Rattle.era_gate.proofs.PassKept.{new_cut}
use Rattle.era_gate.proofs.pass_laws.new_lanes_are_cut.Goals as goal

pub returns-clause-below : goal.returns-clause-below
returns-clause-below c pass low few more budget is =
    ap (λ (parts : List LanePart). filter (below (low + few)) parts) is ∙ (new_cut (low + few) low few more refl).0

pub returns-clause-above : goal.returns-clause-above
returns-clause-above c pass low few more budget is =
    ap (λ (parts : List LanePart). filter (above (low + few)) parts) is ∙ (new_cut (low + few) low few more refl).1
