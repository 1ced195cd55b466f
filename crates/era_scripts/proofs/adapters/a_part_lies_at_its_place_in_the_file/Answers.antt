use Rattle.std.proofs.Common.{refl}
use Rattle.era_base.specs.Bay.{new_loan}
use Rattle.era_scripts.proofs.adapters.a_part_lies_at_its_place_in_the_file.Goals as goal

-- the one loan is that of the disk, whose calls kept its place
pub put_back-requires : goal.put_back-requires
put_back-requires g c = (
  0,
  record {
    loan = new_loan c.in_ok-disk.disk;
    found = rw c.in_ok-disk.ensures.loans (rw c.in_ok-size.ensures.loans (rw c.new-bay.ensures.loans refl));
    out = refl;
    same_place = rw (c.read.ensures.place.0, c.read.ensures.place.1, c.sync.ensures.place.0, c.sync.ensures.place.1, c.write-2.ensures.place.0, c.write-2.ensures.place.1) refl;
    same_size = cc (c.read.ensures.size, c.sync.ensures.size, c.write-2.ensures.size);
  },
)
