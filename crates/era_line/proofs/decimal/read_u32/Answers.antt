use Rattle.std.proofs.Common.{◌≡◌, ◌≢◌, ℕ, ◌<◌, ◌^◌, List, Result, Ok, Err, sym, ◌∙◌, arith}
use Rattle.std.specs.Prelude.{decimal, IfNone}
use Rattle.std.specs.Result.{OkIff, result_ok}
use Rattle.std.proofs.lemmas.Fmt.{decimal_injective}
use Rattle.era_line.proofs.decimal.read_u32.Goals as goal

-- a number that is too great has no smaller number's decimal
too_great : {E : Type 0} (value : Result ℕ E) (number : ℕ) (text : List ℕ) → OkIff value (number < 2 ^ 32) number → number < 2 ^ 64
    → text ≡ decimal number → IfNone (result_ok value) ((small : ℕ) → small < 2 ^ 32 → text ≢ decimal small)
too_great (Ok value) number text cause fits is = tt
too_great (Err error) number text cause fits is = λ small less same.
    let equal : number ≡ small = decimal_injective number small fits (omega (arith, less)) (sym is ∙ same) in
    omega (arith, cause, less)

pub returns-clause-none : goal.returns-clause-none
returns-clause-none c =
    rw c.ok.ensures.value (too_great c.try_from.result c.in_ok-read_decimal.field-0 c.args.text.now c.try_from.ensures (omega arith)
    c.in_ok-read_decimal.ensures.some)
