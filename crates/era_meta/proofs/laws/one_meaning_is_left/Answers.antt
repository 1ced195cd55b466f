use Rattle.std.proofs.Common.{sym, ◌∙◌}
use Rattle.era_meta.specs.Meaning.{pages_in}
use Rattle.era_meta.proofs.OneMeaning.{same-meaning}
use Rattle.era_meta.proofs.laws.one_meaning_is_left.Goals as goal

pub returns : goal.returns
returns c = λ target number one two now first second.
    first.says ∙ (same-meaning c.bytes_are_of_one_root.ensures (pages_in now.seen) first.root second.root first.held second.held first.whole second.whole
    (sym first.spelled ∙ second.spelled) ∙ sym second.says)
