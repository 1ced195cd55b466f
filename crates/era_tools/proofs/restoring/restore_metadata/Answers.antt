use Rattle.std.proofs.Common.{Some, None, subst}
use Rattle.era_tools.specs.Around.{bay_around}
use Rattle.era_tools.proofs.PutBack.{Between, PutsBack, out}
use Rattle.era_tools.proofs.Restored.{has-restored, stands-formatted}
use Rattle.era_tools.proofs.restoring.restore_metadata.Goals as goal

-- the disk is out
pub put_back-requires : goal.put_back-requires
put_back-requires g c =
    rw c.into_disk.ensures
    (out g.row.B-D.Denot g.B.D.Disk (g.B.Bay.loans c.args.bay.now) _ c.in-Ok.disk c.in-Ok-restore.meta.slots.disk c.in-Ok.ensures.loans c.in-Ok-restore.ensures.disk)

pub put_back-requires-in-Err-restore : goal.put_back-requires-in-Err-restore
put_back-requires-in-Err-restore g c =
    out g.row.B-D.Denot g.B.D.Disk (g.B.Bay.loans c.args.bay.now) _ c.in-Ok.disk c.in-Err-restore.refused.disk c.in-Ok.ensures.loans c.in-Err-restore.ensures.disk

-- it was restored and put back
pub returns-in-Ok-restore : goal.returns-in-Ok-restore
returns-in-Ok-restore g c =
    let bay = bay_around g.B.Bay c.args.bay.now c.put_back.new.self in
    let between : Between g.row.B-D.Denot = record {
      sizes = g.B.Bay.sizes c.lend_metadata.new.bay;
      reads = g.B.Bay.reads c.lend_metadata.new.bay;
      loans = g.B.Bay.loans c.lend_metadata.new.bay;
      faults = g.B.Bay.faults c.lend_metadata.new.bay;
    } in (
      c.in-Ok.disk,
      has-restored g.row.B-D.Denot g.B.D.Disk bay between c.args.name.now c.args.marks.now c.in-Ok.disk c.in-Ok-restore.meta.slots.disk None c.in-Ok.ensures
          c.in-Ok-restore.ensures.moments
          (c.in-Ok-restore.ensures.enough, stands-formatted g.row.B-D.Denot g.B.D.Disk c.args.marks.now c.in-Ok.disk c.in-Ok-restore.meta c.in-Ok-restore.ensures.ok)
          c.in-Ok-restore.ensures.disk c.in-Ok-restore.ensures.cause
          (subst (PutsBack g.B.D.Disk between bay) c.into_disk.ensures
          (record {
            loans = c.put_back.ensures.loans;
            content = c.put_back.ensures.content;
            others = c.put_back.ensures.others;
            sizes = c.put_back.ensures.sizes;
            faults = c.put_back.ensures.same;
          })),
    )

-- it was refused and put back
pub returns-in-Err-restore : goal.returns-in-Err-restore
returns-in-Err-restore g c = (
  c.in-Ok.disk,
  has-restored g.row.B-D.Denot g.B.D.Disk (bay_around g.B.Bay c.args.bay.now c.put_back-in-Err-restore.new.self)
      (record {
        sizes = g.B.Bay.sizes c.lend_metadata.new.bay;
        reads = g.B.Bay.reads c.lend_metadata.new.bay;
        loans = g.B.Bay.loans c.lend_metadata.new.bay;
        faults = g.B.Bay.faults c.lend_metadata.new.bay;
      })
      c.args.name.now c.args.marks.now c.in-Ok.disk c.in-Err-restore.refused.disk (Some c.in-Err-restore.refused.error) c.in-Ok.ensures
      c.in-Err-restore.ensures.moments c.in-Err-restore.ensures.refused
      c.in-Err-restore.ensures.disk c.in-Err-restore.ensures.cause
      (record {
        loans = c.put_back-in-Err-restore.ensures.loans;
        content = c.put_back-in-Err-restore.ensures.content;
        others = c.put_back-in-Err-restore.ensures.others;
        sizes = c.put_back-in-Err-restore.ensures.sizes;
        faults = c.put_back-in-Err-restore.ensures.same;
      }),
)
