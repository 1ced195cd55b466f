use Rattle.std.proofs.Common.{◌^◌, arith}
use Rattle.era_text.proofs.WordsOfLines.{number-decimal}
use Rattle.era_text.proofs.line_words.number_of_word.Goals as goal

pub returns-in-Some-clause-some : goal.returns-in-Some-clause-some
returns-in-Some-clause-some c = rw c.in-Some.ensures.some (number-decimal (2 ^ 32) c.in-Some.number (omega arith) (omega arith))
