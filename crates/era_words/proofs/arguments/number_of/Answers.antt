use Rattle.std.proofs.Common.{arith, sym, ◌∙◌}
use Rattle.era_words.proofs.Values.{one_number}
use Rattle.era_words.proofs.arguments.number_of.Goals as goal

-- the number is too great
pub returns-in_default-clause-usage : goal.returns-in_default-clause-usage
returns-in_default-clause-usage c = λ _ number has.
    let equal = one_number _ c.in_ok-text.text.now c.in-Some.number number (omega arith) (omega arith) c.in_ok-text.ensures.ok (sym c.as_bytes.ensures.value ∙ c.in-Some.ensures.some) has.spelled in
    omega (arith, equal)

-- the number is too small
pub returns-in_default-2-clause-usage : goal.returns-in_default-2-clause-usage
returns-in_default-2-clause-usage c = λ _ number has.
    let equal = one_number _ c.in_ok-text.text.now c.in-Some.number number (omega arith) (omega arith) c.in_ok-text.ensures.ok (sym c.as_bytes.ensures.value ∙ c.in-Some.ensures.some) has.spelled in
    omega (arith, equal)
