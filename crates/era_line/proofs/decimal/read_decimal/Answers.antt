use Rattle.std.proofs.Common.{◌≡◌, ℕ, List, sym, ◌∙◌, subst, rules}
use Rattle.std.specs.Prelude.{decimal}
use Rattle.std.specs.Str.{IsUtf8}
use Rattle.std.proofs.lemmas.Fmt.{parse-decimal, IsAscii-decimal}
use Rattle.std.proofs.lemmas.Str.{IsUtf8-from_ascii}
use Rattle.era_line.proofs.decimal.read_decimal.Goals as goal

pub returns-in_default-clause-none : goal.returns-in_default-clause-none
returns-in_default-clause-none c = λ number small is.
    c.in_default.ensures.cases.0
    (subst (λ (text : List ℕ). IsUtf8 text) (sym is) (IsUtf8-from_ascii (decimal number) (IsAscii-decimal number small)))

pub returns-in_default-parse-clause-none : goal.returns-in_default-parse-clause-none
returns-in_default-parse-clause-none c = λ number small is.
    let text : c.in-Ok.text.now ≡ decimal number = c.in-Ok.ensures.cases.0 ∙ is in
    absurd (cc (parse-decimal 64 number c.in-Ok.text.now c.parse.result small small text c.parse.ensures.value.0))

pub returns-else-eq-clause-none : goal.returns-else-eq-clause-none
returns-else-eq-clause-none c = λ number small is.
    let text : c.in-Ok.text.now ≡ decimal number = c.in-Ok.ensures.cases.0 ∙ is in
    let read = parse-decimal 64 number c.in-Ok.text.now c.parse.result small small text c.parse.ensures.value.0 in
    let same : c.format.result.now ≡ c.in-Ok.text.now = cc (read, text, c.format.ensures.text) in
    absurd (search (rules, same))
