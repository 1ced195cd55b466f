use Rattle.era_tools.specs.Needs.{Blocks, NoGeometry}
use Rattle.era_tools.proofs.Geometries.{are-geometry, is-no-geometry, need-is}
use Rattle.era_tools.proofs.needs.need.Goals as goal

-- the numbers are a geometry
pub returns-in-Ok-clause-told : goal.returns-in-Ok-clause-told
returns-in-Ok-clause-told g c =
    let same = c.in-Ok.ensures.ok in
    record {
      told = Blocks c.need.result;
      right = (
        are-geometry c.in-Ok.geometry c.args.sectors c.args.block_sectors same.0 same.1,
        need-is c.in-Ok.geometry c.args.sectors c.args.block_sectors c.need.result same.0 same.1 c.need.ensures,
      );
      printed = rw c.from.ensures at c.print_number.ensures.printed;
    }

-- they are none
pub returns-in-Err-clause-told : goal.returns-in-Err-clause-told
returns-in-Err-clause-told g c = record {
  told = NoGeometry c.in-Err.error;
  right = is-no-geometry c.new.result c.in-Err.error c.args.sectors c.args.block_sectors c.in-Err.is c.new.ensures.block_size c.new.ensures.none c.new.ensures.many;
  printed = c.refuse.ensures.printed;
}
