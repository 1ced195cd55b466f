use Rattle.std.proofs.Common.{◌≡◌, drop}
use Rattle.era_model.specs.Writes.{is_cut_at}
use Rattle.era_core.proofs.flights.is_byte_cut.Given as goal

abbrev pub invariant-loop-write : goal.invariant-loop-write
invariant-loop-write l = is_cut_at l.writes l.block l.offset ≡ is_cut_at (drop l.write-index l.writes) l.block l.offset
