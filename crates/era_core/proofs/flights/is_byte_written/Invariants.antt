use Rattle.std.proofs.Common.{◌≡◌, drop}
use Rattle.era_model.specs.Writes.{is_written_at}
use Rattle.era_core.proofs.flights.is_byte_written.Given as goal

abbrev pub invariant-loop-write : goal.invariant-loop-write
invariant-loop-write l = is_written_at l.writes l.block l.offset ≡ is_written_at (drop l.write-index l.writes) l.block l.offset
