use Rattle.std.proofs.Common.{inl, subst}
use Rattle.era_tools.specs.Around.{bay_around}
use Rattle.era_tools.proofs.ImageTold.{tells-of-image}
use Rattle.era_tools.proofs.PutBack.{Between, PutsBack, out}
use Rattle.era_tools.proofs.images.dump.Goals as goal

-- the disk is out
pub put_back-requires : goal.put_back-requires
put_back-requires g c =
    rw c.into_disk.ensures
    (out g.row.B-D.Denot g.B.D.Disk (g.B.Bay.loans c.args.bay.now) _ c.in-Ok.ensures.lent c.in-Ok.opened.slots.disk c.in-Ok.ensures.has_lent.loans c.in-Ok.ensures.tried.same)

-- it was put back behind what was told
pub returns-in-Ok-clause-ran : goal.returns-in-Ok-clause-ran
returns-in-Ok-clause-ran g c =
    let bay = bay_around g.B.Bay c.args.bay.now c.put_back.new.self in
    let between : Between g.row.B-D.Denot = record {
      sizes = g.B.Bay.sizes c.open_metadata.new.bay;
      reads = g.B.Bay.reads c.open_metadata.new.bay;
      loans = g.B.Bay.loans c.open_metadata.new.bay;
      faults = g.B.Bay.faults c.open_metadata.new.bay;
    } in
    inl (tells-of-image g.row.B-D.Denot g.B.D.Disk bay between c.args.meta.now c.in-Ok.opened _ c.in-Ok.ensures
    (subst (PutsBack g.B.D.Disk between bay) c.into_disk.ensures
    (record {
      loans = c.put_back.ensures.loans;
      content = c.put_back.ensures.content;
      others = c.put_back.ensures.others;
      sizes = c.put_back.ensures.sizes;
      faults = c.put_back.ensures.same;
    }))
    c.print_marks-status.ensures.printed)
