use Rattle.std.proofs.Common.{arith}
use Rattle.era_text.proofs.LineWords.{some-word}
use Rattle.era_text.proofs.line_words.two_words.Goals as goal

-- a third word stands behind the second one
pub returns-in-Some-clause-none : goal.returns-in-Some-clause-none
returns-in-Some-clause-none c =
    let more = some-word c.in-Some._more.now in
    rw (c.in_ok-first.ensures.some, c.in-Some.ensures.some) (λ two. omega (arith, more, two))
