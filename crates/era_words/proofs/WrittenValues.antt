-- The values of arguments in words that are written out.
use Rattle.std.proofs.Common.{◌≡◌, ℕ, ◌+◌, ◌<◌, ◌≤◌, true, false, List, [], ◌∷◌, ap, sym, ◌∙◌, refl, arith, rules}
use Rattle.std.specs.Prelude.{codes, decimal, Some}
use Rattle.std.proofs.lemmas.Fmt.{decimal_digit}
use Rattle.clap.specs.Words.{Row, Text}
use Rattle.era_line.specs.TableLine.{IsTableLine}
use Rattle.era_words.specs.Jobs.{HasText, HasNumber, HasFlag}

module _ (rows : List Row) (id : Text) where
  -- an argument that is one digit is a number
  pub number : (least most digit : ℕ) → digit < 10 → HasText rows id ((48 + digit) ∷ []) → least ≤ digit → digit ≤ most → HasNumber rows id least most digit
  number least most digit small is enough limited = record { spelled = is ∙ ap Some (sym (decimal_digit digit small)); enough = enough; limited = limited }

  -- a flag that has its own default wasn't given, and one that has the other value was
  pub not_given : HasText rows id (codes "false") → HasFlag rows id false
  not_given is = ((λ e. cc), (λ has. cc))

  pub given : HasText rows id (codes "true") → HasFlag rows id true
  given is = ((λ e. is), (λ has. cc))

-- the table line of the small target
pub small_table : IsTableLine (codes "0 8 era m o 8") 8 (codes "m") (codes "o") 8
small_table =
    let eight : decimal 8 ≡ 56 ∷ [] = decimal_digit 8 (omega arith) in
    record {
      spelled = rw eight refl;
      sectors_fit = omega arith;
      block_fits = omega arith;
      meta_name = record { some = omega arith; no_space = search rules };
      origin_name = record { some = omega arith; no_space = search rules };
    }
