use Rattle.era_sets.proofs.Flags.{blocks-of}
use Rattle.era_sets.proofs.bit_set.BitSet.len.Goals as goal

pub returns : goal.returns
returns c = blocks-of c.self.inside.blocks c.self.inside.words.items _ c.self.view_is
