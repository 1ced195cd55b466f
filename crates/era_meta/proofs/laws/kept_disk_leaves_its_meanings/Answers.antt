use Rattle.era_meta.proofs.Kept.{keeps-images}
use Rattle.era_meta.proofs.laws.kept_disk_leaves_its_meanings.Goals as goal

pub returns : goal.returns
returns c =
    keeps-images c.page_on_the_disk_is_left.ensures c.standing_slots_leave_one_of_two_bodies.ensures c.open_slot_is_left_as_it_reads.ensures
