use Rattle.std.proofs.Common.{inl}
use Rattle.era_tools.specs.Around.{Between, bay_around}
use Rattle.era_tools.proofs.CopiesRead.{has-read}
use Rattle.era_tools.proofs.PutBack.{out}
use Rattle.era_tools.proofs.backing_up.copy_origin.Goals as goal

-- the disk is out
pub put_back-requires : goal.put_back-requires
put_back-requires g c =
    out g.row.B-D.Denot g.B.D.Disk (g.B.Bay.loans c.args.bay.now) _ c.in-Ok.disk c.copy_disk-status.new.disk c.in-Ok.ensures.loans c.copy_disk-status.ensures.only.same

-- it was put back behind what was told
pub returns-in-Ok-clause-ran : goal.returns-in-Ok-clause-ran
returns-in-Ok-clause-ran g c =
    let bay = bay_around g.B.Bay c.args.bay.now c.put_back.new.self in
    let between : Between g.row.B-D.Denot = record {
      sizes = g.B.Bay.sizes c.lend_origin.new.bay;
      reads = g.B.Bay.reads c.lend_origin.new.bay;
      loans = g.B.Bay.loans c.lend_origin.new.bay;
      faults = g.B.Bay.faults c.lend_origin.new.bay;
    } in
    inl (record {
      lent = c.in-Ok.disk;
      back = c.copy_disk-status.new.disk;
      read = has-read g.row.B-D.Denot g.B.D.Disk bay between c.args.name.now c.args.listing.now.geometry.sectors c.in-Ok.disk c.copy_disk-status.new.disk
          c.in-Ok.ensures c.copy_disk-status.ensures.only
          (record {
            loans = c.put_back.ensures.loans;
            content = c.put_back.ensures.content;
            others = c.put_back.ensures.others;
            sizes = c.put_back.ensures.sizes;
            faults = c.put_back.ensures.same;
          });
      told = c.copy_disk-status.ensures.told;
    })
