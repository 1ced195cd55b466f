use Rattle.std.proofs.Common.{◌*◌, ℕ}
use Rattle.era_keeper_scripts.proofs.BenchSteps.{bench-next, mark-keeps}
use Rattle.era_keeper_scripts.proofs.commands.mark.Goals as goal

pub returns-in-Ok : goal.returns-in-Ok
returns-in-Ok g c =
    let number : ℕ = c.args.number in
    record {
      bench = bench-next g.D.Disk (2 * number) c.args.gate.now c.ready.new.keeper c.mark_for.new.self c.args.pass.now c.mark_for.new.pass c.in_ok-id.ensures.bench c.mark_for.ensures.same c.mark_for.ensures.fits
          (mark-keeps g.D.Disk _ c.in_ok-id.id c.args.block _ c.ready.new.keeper c.mark_for.new.self c.args.pass.now c.mark_for.new.pass c.in-Ok.ensures.did);
    }

pub returns-in-Err : goal.returns-in-Err
returns-in-Err g c =
    let number : ℕ = c.args.number in
    record {
      bench = bench-next g.D.Disk (2 * number) c.args.gate.now c.ready.new.keeper c.mark_for.new.self c.args.pass.now c.mark_for.new.pass c.in_ok-id.ensures.bench c.mark_for.ensures.same c.mark_for.ensures.fits
          (mark-keeps g.D.Disk _ c.in_ok-id.id c.args.block _ c.ready.new.keeper c.mark_for.new.self c.args.pass.now c.mark_for.new.pass c.in-Err.ensures.did);
    }
