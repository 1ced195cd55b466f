use Rattle.std.proofs.Common.{get_or, refl, arith}
use Rattle.era_sets.proofs.WordBits.{found-first, passed-more}
use Rattle.era_sets.proofs.words.first_bit.Goals as goal

pub returns-then-bit-lt64 : goal.returns-then-bit-lt64
returns-then-bit-lt64 c =
    let words = c.args.words.now in
    let at = c.loop-at.at in
    let passed = c.saturating_sub-passed.ensures in
    rw passed (found-first words (get_or words at 0) at c.args.from c.first_of_word.result c.args.flag refl (rw passed at c.first_of_word.ensures) c.loop-at.invariant (omega arith) (omega arith))

pub loop-at-preserved : goal.loop-at-preserved
loop-at-preserved c =
    let words = c.args.words.now in
    let at = c.loop-at.at in
    let passed = c.saturating_sub-passed.ensures in
    passed-more words (get_or words at 0) at c.args.from c.first_of_word.result c.args.flag refl (rw passed at c.first_of_word.ensures) c.loop-at.invariant (omega arith)
