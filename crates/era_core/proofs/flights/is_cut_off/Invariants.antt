use Rattle.std.proofs.Common.{◌≡◌, drop}
use Rattle.era_model.specs.Writes.{is_cut}
use Rattle.era_core.proofs.flights.is_cut_off.Given as goal

abbrev pub invariant-loop-write : goal.invariant-loop-write
invariant-loop-write l = is_cut l.writes l.id ≡ is_cut (drop l.write-index l.writes) l.id
