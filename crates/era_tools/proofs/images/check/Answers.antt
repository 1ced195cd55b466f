use Rattle.std.proofs.Common.{inl}
use Rattle.era_check.specs.Checks.{refusal_in}
use Rattle.era_tools.specs.Around.{bay_around}
use Rattle.era_tools.proofs.PutBack.{has-tried, out}
use Rattle.era_tools.proofs.images.check.Goals as goal

-- the disk is out
pub put_back-requires : goal.put_back-requires
put_back-requires g c =
    out g.row.B-D.Denot g.B.D.Disk (g.B.Bay.loans c.args.bay.now) _ c.in-Ok.disk c.check-back.result.0 c.in-Ok.ensures.loans c.check-back.ensures.tried.same

-- it was put back, and what was found was told
pub returns-in-Ok-clause-ran : goal.returns-in-Ok-clause-ran
returns-in-Ok-clause-ran g c = inl (record {
  finding = c.check-back.result.1;
  lent = c.in-Ok.disk;
  tried = has-tried g.row.B-D.Denot g.B.D.Disk (bay_around g.B.Bay c.args.bay.now c.put_back.new.self)
      (record {
        sizes = g.B.Bay.sizes c.lend_metadata.new.bay;
        reads = g.B.Bay.reads c.lend_metadata.new.bay;
        loans = g.B.Bay.loans c.lend_metadata.new.bay;
        faults = g.B.Bay.faults c.lend_metadata.new.bay;
      })
      c.args.meta.now c.in-Ok.disk c.check-back.result.0 (refusal_in c.check-back.result.1) c.in-Ok.ensures c.check-back.ensures.tried
      (record {
        loans = c.put_back.ensures.loans;
        content = c.put_back.ensures.content;
        others = c.put_back.ensures.others;
        sizes = c.put_back.ensures.sizes;
        faults = c.put_back.ensures.same;
      });
  clean = c.check-back.ensures.clean;
  printed = c.print_checked.ensures.printed;
})
