use Rattle.std.proofs.Common.{◌∙◌, arith}
use Rattle.std.specs.Prelude.{decimal}
use Rattle.era_line.specs.Inside.{BeginsWithNoNumber}
use Rattle.era_line.proofs.CutSteps.{if_none, uncut, cut_same, HasNo-decimal}
use Rattle.era_line.proofs.table_line.next_number.Goals as goal

-- no space
pub returns-in_err-first-clause-none : goal.returns-in_err-first-clause-none
returns-in_err-first-clause-none c = if_none {P = BeginsWithNoNumber c.args.text.now} _ (λ value rest small e.
    uncut 32 c.args.text.now (decimal value) rest c.in_err-first.ensures.none e)

-- no decimal
pub returns-in_err-read_decimal-clause-none : goal.returns-in_err-read_decimal-clause-none
returns-in_err-read_decimal-clause-none c = if_none {P = BeginsWithNoNumber c.args.text.now} _ (λ value rest small e.
    let cut = c.in_ok-first.ensures.some in
    let same = cut_same 32 c.args.text.now c.in_ok-first.first.now (decimal value) c.in_ok-first.rest.now rest cut.1 (HasNo-decimal 32 value (omega arith) small) cut.0 e in
    c.in_err-read_decimal.ensures.none value small (c.as_bytes.ensures.value ∙ same.0))
