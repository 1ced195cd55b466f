use Rattle.era_sets.proofs.WordBits.{first-set, first-clear}
use Rattle.era_sets.proofs.words.first_of_word.Goals as goal

pub returns-then-flag : goal.returns-then-flag
returns-then-flag c = rw c.if-flag.true (first-set c.args.word c.ranges.word.fits)

pub returns-else-flag : goal.returns-else-flag
returns-else-flag c = rw (c.if-flag.false, c.trailing_ones.ensures) (first-clear c.args.word c.ranges.word.fits)
