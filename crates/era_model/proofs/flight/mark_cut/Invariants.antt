use Rattle.std.proofs.Common.{◌≡◌, ◌++◌, take, drop}
use Rattle.era_model.specs.Writes.{with_cut}
use Rattle.era_model.proofs.flight.mark_cut.Given as goal

abbrev pub invariant-loop-write : goal.invariant-loop-write
invariant-loop-write l = l.write-items ≡ with_cut (take l.write-index l.fn.writes.items) l.id ++ drop l.write-index l.fn.writes.items
