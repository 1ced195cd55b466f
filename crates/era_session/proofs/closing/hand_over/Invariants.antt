use Rattle.std.proofs.Common.{◌≡◌, ◌≤◌, ◌+◌, ◌++◌, length, vec_len, vec_capacity}
use Rattle.std.specs.Vec.Iter.{into_iter_items, into_iter_len}
use Rattle.era_session.specs.Ends.{disks_of, seats_of}
use Rattle.era_session.proofs.closing.hand_over.Given as goal

-- what was handed over and what is left are all, and there is room for the rest
abbrev pub invariant-loop-stripe : goal.invariant-loop-stripe
invariant-loop-stripe g l = record {
  size : into_iter_len l.rest ≡ length (into_iter_items l.rest);
  parts : l.parts.items ++ disks_of (into_iter_items l.rest) ≡ l.initial.parts.items ++ disks_of (into_iter_items l.initial.rest);
  seats : l.seats.items ++ seats_of (into_iter_items l.rest) ≡ l.initial.seats.items ++ seats_of (into_iter_items l.initial.rest);
  parts_room : vec_len l.parts + into_iter_len l.rest ≤ vec_capacity l.parts;
  seats_room : vec_len l.seats + into_iter_len l.rest ≤ vec_capacity l.seats;
}

abbrev pub decreases-loop-stripe : goal.decreases-loop-stripe
decreases-loop-stripe g l = into_iter_len l.rest
