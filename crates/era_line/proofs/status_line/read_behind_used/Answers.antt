use Rattle.era_line.proofs.CutSteps.{if_none}
use Rattle.era_line.proofs.StatusSteps.{no_era, no_held}
use Rattle.era_line.proofs.status_line.read_behind_used.Goals as goal

pub returns-in_err-era-clause-none : goal.returns-in_err-era-clause-none
returns-in_err-era-clause-none c =
    if_none c.from_residual-in_err-era.result (no_era c.args.text.now c.in_ok-total.rest.now c.in_ok-total.total c.in_ok-total.ensures.some
    c.in_err-era.ensures.none)

pub returns-in_err-held-clause-none : goal.returns-in_err-held-clause-none
returns-in_err-held-clause-none c =
    if_none c.from_residual-in_err-held.result (no_held c.args.text.now c.in_ok-total.rest.now c.in_ok-era.rest.now c.in_ok-total.total c.in_ok-era.era
    c.in_ok-total.ensures.some c.in_ok-era.ensures.some c.in_err-held.ensures.none)
