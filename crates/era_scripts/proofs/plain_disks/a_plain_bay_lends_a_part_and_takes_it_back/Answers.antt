use Rattle.std.proofs.Common.{refl}
use Rattle.era_base.specs.Bay.{new_loan}
use Rattle.era_scripts.proofs.plain_disks.a_plain_bay_lends_a_part_and_takes_it_back.Goals as goal

-- the one loan is that of the disk, whose calls kept its place
pub put_back-requires : goal.put_back-requires
put_back-requires g c = (
  0,
  record {
    loan = new_loan c.in_ok-disk.disk;
    found = rw c.in_ok-disk.ensures.loans (rw c.in_ok-add.ensures.rest.0 (rw c.new-bay.ensures.loans refl));
    out = refl;
    same_place = rw (c.sync.ensures.place, c.write.ensures.place) refl;
    same_size = rw (c.sync.ensures.size, c.write.ensures.size) refl;
  },
)
