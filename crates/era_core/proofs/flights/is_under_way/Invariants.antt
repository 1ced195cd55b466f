use Rattle.std.proofs.Common.{◌≡◌, drop}
use Rattle.era_model.specs.Writes.{is_writing}
use Rattle.era_core.proofs.flights.is_under_way.Given as goal

abbrev pub invariant-loop-write : goal.invariant-loop-write
invariant-loop-write l = is_writing l.writes l.id ≡ is_writing (drop l.write-index l.writes) l.id
