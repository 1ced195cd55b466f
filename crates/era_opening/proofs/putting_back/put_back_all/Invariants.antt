use Rattle.std.proofs.Common.{◌≡◌, ◌+◌, length}
use Rattle.era_base.specs.Bay.{KeepsSizes}
use Rattle.era_opening.proofs.InRow.{SoFar}
use Rattle.era_opening.proofs.putting_back.put_back_all.Given as goal

-- the disks so far were put back, and the rest is out
abbrev pub invariant-loop-index : goal.invariant-loop-index
invariant-loop-index g l = record {
  so : SoFar g.B.D.Disk l.initial.disks.items l.disks.items l.index (g.B.Bay.loans l.initial.bay) (g.B.Bay.loans l.bay) (g.B.Bay.reads l.initial.bay) (g.B.Bay.reads l.bay);
  left : l.index + length l.disks.items ≡ length l.initial.disks.items;
  sizes : KeepsSizes (g.B.Bay.sizes l.initial.bay) (g.B.Bay.sizes l.bay);
  faults : g.B.Bay.faults l.bay ≡ g.B.Bay.faults l.initial.bay;
}
