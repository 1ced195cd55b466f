use Rattle.std.proofs.Common.{◌≡◌}
use Rattle.era_sets.proofs.ChangedWords.{HasTaken}
use Rattle.era_sets.proofs.bit_set.BitSet.union.Given as goal

-- the words before have taken over the other set's bits
abbrev pub invariant-loop-at : goal.invariant-loop-at
invariant-loop-at l = record {
  blocks : l.self-inside.blocks ≡ l.initial.self-inside.blocks;
  words : HasTaken l.initial.self-inside.words.items l.other-inside.words.items l.self-inside.words.items l.at;
}
