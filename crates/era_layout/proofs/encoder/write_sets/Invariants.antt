use Rattle.std.proofs.Common.{◌≡◌, ◌+◌, ◌*◌, ◌≤◌, ◌++◌, take}
use Rattle.era_layout.specs.Root.{archive_bytes}
use Rattle.era_layout.proofs.encoder.write_sets.Given as goal

abbrev pub invariant-loop-set : goal.invariant-loop-set
invariant-loop-set l = record {
  room : l.behind ≤ l.offset + 12 * l.set-index;
  front : take l.behind l.into ≡ take l.offset l.fn.into ++ archive_bytes (take l.set-index l.sets);
}
