use Rattle.std.proofs.Common.{Some, List, slice_get, refl, sym, ◌∙◌, ap}
use Rattle.std.proofs.lemmas.Option.{slice_get_within, same_Some}
use Rattle.era_base.specs.Disk.{Place}
use Rattle.era_disks.specs.declared.loan_entry.LoanEntry.{LoanEntry}
use Rattle.era_disks.specs.Loans.{IsEntryPlaced}
use Rattle.era_disks.proofs.Entries.{all_at-set, out-entry, ends-last, last_along, loan-ended, read_at}
use Rattle.era_disks.proofs.loans.Loans.end.Goals as goal

pub invariant_of-self : goal.invariant_of-self
invariant_of-self g c =
    let last = last_along c.as_slice.result.now c.args.self.now.entries.items c.args.device.now c.args.device.now c.args.first c.args.first
    c.sectors.result c.sectors.result c.in-Some.index c.as_slice.ensures.value refl refl refl c.in-Some.ensures.some in
    let within = slice_get_within c.args.self.now.entries.items c.in-Some.index last.entry last.found in
    let is = c.args.self.now.placed c.in-Some.index c.index_mut.result.now
    (read_at c.args.self.now.entries.items c.in-Some.index c.index_mut.result.now within c.index_mut.ensures.value) in
    record {
      placed = all_at-set (IsEntryPlaced g.D.Disk.place g.D.Disk.sectors) c.args.self.now.entries.items c.in-Some.index _
          c.args.self.now.placed
          (record { same_device = is.same_device; same_first = is.same_first; same_size = is.same_size });
    }

pub unreachable-requires : goal.unreachable-requires
unreachable-requires g c =
    out-entry g.D.Disk.place g.D.Disk.sectors c.args.self.now.entries.items (g.D.Disk.place c.args.disk.now) (g.D.Disk.sectors c.args.disk.now)
    c.requires.out.0 c.args.self.now.placed c.requires.out.1
    (λ entry found is. c.in-None.ensures.none c.requires.out.0 entry (ap (λ (xs : List (LoanEntry g.row.D.Denot)). slice_get xs c.requires.out.0) c.as_slice.ensures.value ∙ found)
    (record {
      out = is.out;
      same_device = is.same_device ∙ ap (λ (p : Place). p.device) c.requires.place;
      same_first = is.same_first ∙ ap (λ (p : Place). p.first) c.requires.place;
      same_size = is.same_size ∙ sym c.sectors.ensures;
    }))

pub returns : goal.returns
returns g c =
    let last = last_along c.as_slice.result.now c.args.self.now.entries.items
    c.args.device.now (g.D.Disk.place c.args.disk.now).device c.args.first (g.D.Disk.place c.args.disk.now).first
    c.sectors.result (g.D.Disk.sectors c.args.disk.now) c.in-Some.index
    c.as_slice.ensures.value (sym (ap (λ (p : Place). p.device) c.requires.place)) (sym (ap (λ (p : Place). p.first) c.requires.place))
    c.sectors.ensures c.in-Some.ensures.some in
    let within = slice_get_within c.args.self.now.entries.items c.in-Some.index last.entry last.found in
    let same = same_Some c.index_mut.result.now last.entry
    (sym (read_at c.args.self.now.entries.items c.in-Some.index c.index_mut.result.now within c.index_mut.ensures.value) ∙ last.found) in
    ends-last g.D.Disk.place g.D.Disk.sectors c.args.self.now.entries.items c.args.disk.now c.in-Some.index c.args.self.now.placed last
    (record c.index_mut.result.now { back = Some c.of.result })
    (loan-ended c.index_mut.result.now last.entry c.of.result c.args.disk.now same c.of.ensures)
