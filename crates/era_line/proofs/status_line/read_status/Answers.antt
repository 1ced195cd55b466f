use Rattle.std.proofs.Common.{Some, sym, ◌∙◌}
use Rattle.std.specs.Prelude.{codes}
use Rattle.std.proofs.lemmas.Bool.Decides.{Decides-eqb}
use Rattle.std.proofs.lemmas.Slice.Eq.{strip_prefix_is}
use Rattle.era_line.proofs.CutSteps.{if_none}
use Rattle.era_line.proofs.StatusSteps.{no_behind_used}
use Rattle.era_line.proofs.status_line.read_status.Goals as goal

pub returns-in_err-total-clause-none : goal.returns-in_err-total-clause-none
returns-in_err-total-clause-none c =
    let bytes = strip_prefix_is Decides-eqb c.as_bytes.result.now (codes "8 ") (Some c.in_ok-rest.rest) c.in_ok-rest.ensures.cases in
    if_none c.from_residual-in_err-total.result (no_behind_used c.args.text.now c.in_ok-rest.rest.now c.in_ok-used.rest.now c.in_ok-used.used
    (sym c.as_bytes.ensures.value ∙ bytes) c.in_ok-used.ensures.some c.in_err-total.ensures.none)
