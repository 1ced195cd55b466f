use Rattle.std.proofs.Common.{rules, refl}
use Rattle.era_tools.specs.Around.{bay_around}
use Rattle.era_tools.proofs.Geometries.{are-geometry, is-no-geometry}
use Rattle.era_top.proofs.Causes.{origin_cause, origin_rose}
use Rattle.era_top.proofs.top.open.Goals as goal

-- the numbers are no geometry
pub returns-in-Err : goal.returns-in-Err
returns-in-Err g c = record {
  cause = (
    refl,
    is-no-geometry c.new.result c.in-Err.error c.args.line.now.length c.args.line.now.block_sectors c.in-Err.is
        c.new.ensures.block_size c.new.ensures.none c.new.ensures.many,
    refl,
  );
  left = search rules;
  rose = λ is. cc;
}

-- the origin isn't lent
pub returns-in-Err-open_origin : goal.returns-in-Err-open_origin
returns-in-Err-open_origin g c =
    let bay = bay_around g.B.Bay c.args.bay.now c.open_origin.new.bay in
    record {
      cause = origin_cause g.row.B-D.Denot bay c.args.line.now c.in-Err-open_origin.refusal
          (are-geometry c.in-Ok.geometry c.args.line.now.length c.args.line.now.block_sectors c.in-Ok.ensures.ok.0 c.in-Ok.ensures.ok.1)
          c.in-Err-open_origin.ensures.0;
      left = c.in-Err-open_origin.ensures.1;
      rose = origin_rose g.row.B-D.Denot bay c.args.line.now c.in-Err-open_origin.refusal c.in-Err-open_origin.ensures.0;
    }
