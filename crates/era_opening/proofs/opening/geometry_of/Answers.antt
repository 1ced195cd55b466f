use Rattle.std.proofs.Common.{refl}
use Rattle.era_tools.proofs.Geometries.{are-geometry, is-no-geometry}
use Rattle.era_opening.proofs.opening.geometry_of.Goals as goal

-- the numbers are a geometry
pub returns-in-Ok : goal.returns-in-Ok
returns-in-Ok c =
    let same = c.in-Ok.ensures.ok in
    (record { sectors = same.0; block_sectors = same.1 }, are-geometry c.in-Ok.geometry c.args.line.now.length c.args.line.now.block_sectors same.0 same.1)

-- they are none
pub returns-in-Err : goal.returns-in-Err
returns-in-Err c =
    (refl, is-no-geometry c.new.result c.in-Err.error c.args.line.now.length c.args.line.now.block_sectors c.in-Err.is c.new.ensures.block_size c.new.ensures.none c.new.ensures.many)
