use Rattle.std.proofs.Common.{◌^◌, arith}
use Rattle.era_line.proofs.CutSteps.{if_none, no_separator, no_number}
use Rattle.era_line.proofs.words.split_u32.Goals as goal

pub returns-in_err-first-clause-none : goal.returns-in_err-first-clause-none
returns-in_err-first-clause-none c =
    if_none c.from_residual.result (no_separator (2 ^ 32) c.args.separator c.args.text.now c.in_err-first.ensures.none)

pub returns-in_err-read_u32-clause-none : goal.returns-in_err-read_u32-clause-none
returns-in_err-read_u32-clause-none c =
    if_none c.from_residual-in_err-read_u32.result (no_number (2 ^ 32) c.args.separator c.args.text.now c.in_ok-first.first.now c.in_ok-first.rest.now
    c.requires (omega arith) c.in_ok-first.ensures.some c.in_err-read_u32.ensures.none)
