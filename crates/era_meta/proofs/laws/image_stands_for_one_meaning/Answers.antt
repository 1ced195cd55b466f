use Rattle.era_meta.proofs.OneMeaning.{one-meaning}
use Rattle.era_meta.proofs.laws.image_stands_for_one_meaning.Goals as goal

pub returns-clause-one : goal.returns-clause-one
returns-clause-one c = one-meaning c.bytes_are_of_one_root.ensures c.one_slot_is_active.ensures.one
