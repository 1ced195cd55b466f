use Rattle.std.proofs.Common.{◌≡◌, ◌≤◌, drop, vec_capacity}
use Rattle.era_session.specs.Openings.{AreStripesOver}
use Rattle.era_session.proofs.preparing.start_stripes.Given as goal

-- the stripes so far are over their parts, and the other parts and seats are left
abbrev pub invariant-loop-index : goal.invariant-loop-index
invariant-loop-index g l = record {
  parts : l.parts.items ≡ drop l.index l.initial.parts.items;
  seats : l.seats.items ≡ drop l.index l.initial.seats.items;
  stripes : AreStripesOver g.D.Disk l.geometry l.each l.index l.initial.parts.items l.initial.seats.items l.stripes.items;
  parts_room : vec_capacity l.parts ≡ vec_capacity l.initial.parts;
  seats_room : vec_capacity l.seats ≡ vec_capacity l.initial.seats;
  room : vec_capacity l.initial.stripes ≤ vec_capacity l.stripes;
}
