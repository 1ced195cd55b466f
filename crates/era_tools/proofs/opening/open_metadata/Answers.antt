use Rattle.std.proofs.Common.{Some}
use Rattle.era_tools.specs.Around.{bay_around}
use Rattle.era_tools.proofs.PutBack.{has-tried, out}
use Rattle.era_tools.proofs.opening.open_metadata.Goals as goal

-- the disk is out
pub put_back-requires : goal.put_back-requires
put_back-requires g c =
    out g.row.B-D.Denot g.B.D.Disk (g.B.Bay.loans c.args.bay.now) _ c.in-Ok.disk c.in-Err-look.refused.disk c.in-Ok.ensures.loans c.in-Err-look.ensures.tried.same

-- a look refused it, and it was put back
pub returns-in-Err-look : goal.returns-in-Err-look
returns-in-Err-look g c = (
  c.in-Ok.disk,
  has-tried g.row.B-D.Denot g.B.D.Disk (bay_around g.B.Bay c.args.bay.now c.put_back.new.self)
      (record {
        sizes = g.B.Bay.sizes c.lend_metadata.new.bay;
        reads = g.B.Bay.reads c.lend_metadata.new.bay;
        loans = g.B.Bay.loans c.lend_metadata.new.bay;
        faults = g.B.Bay.faults c.lend_metadata.new.bay;
      })
      c.args.name.now c.in-Ok.disk c.in-Err-look.refused.disk (Some c.in-Err-look.refused.error) c.in-Ok.ensures c.in-Err-look.ensures.tried
      (record {
        loans = c.put_back.ensures.loans;
        content = c.put_back.ensures.content;
        others = c.put_back.ensures.others;
        sizes = c.put_back.ensures.sizes;
        faults = c.put_back.ensures.same;
      }),
)
