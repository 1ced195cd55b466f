use Rattle.std.proofs.Common.{sym, subst}
use Rattle.era_disks.specs.Loans.{IsEntryPlaced}
use Rattle.era_disks.proofs.Entries.{AllAt}
use Rattle.era_disks.proofs.loans.Loans.reserve.Goals as goal

pub invariant_of-self : goal.invariant_of-self
invariant_of-self g c = record {
  placed = subst (AllAt (IsEntryPlaced g.D.Disk.place g.D.Disk.sectors)) (sym c.reserve.ensures.items) c.args.self.now.placed;
}
