use Rattle.std.proofs.Common.{sym, ◌∙◌, ap}
use Rattle.era_base.specs.Disk.{Place}
use Rattle.era_disks.specs.Loans.{IsEntryPlaced}
use Rattle.era_disks.proofs.Entries.{all_at-pushed}
use Rattle.era_disks.proofs.loans.Loans.begin.Goals as goal

pub invariant_of-self : goal.invariant_of-self
invariant_of-self g c =
    let there = ap g.D.Disk.place c.of.ensures ∙ c.requires.place in
    record {
      placed = all_at-pushed (IsEntryPlaced g.D.Disk.place g.D.Disk.sectors)
          c.args.self.now.entries.items c.push.new.self.items _ c.push.result c.push.ensures.items c.args.self.now.placed
          (record {
            same_device = ap (λ (p : Place). p.device) there;
            same_first = ap (λ (p : Place). p.first) there;
            same_size = ap g.D.Disk.sectors c.of.ensures ∙ sym c.sectors.ensures;
          });
    }
