use Rattle.std.proofs.Common.{◌*◌, ℕ}
use Rattle.era_keeper_scripts.proofs.BenchSteps.{bench-next, unsnap-keeps}
use Rattle.era_keeper_scripts.proofs.commands.unsnap.Goals as goal

pub returns : goal.returns
returns g c =
    let number : ℕ = c.args.number in
    record {
      bench = bench-next g.D.Disk (2 * number) c.args.gate.now c.ready.new.keeper c.unsnap.new.self c.args.pass.now c.unsnap.new.pass c.in_ok-id.ensures.bench c.unsnap.ensures.same c.unsnap.ensures.fits
          (unsnap-keeps g.D.Disk c.in_ok-id.id c.unsnap.result c.ready.new.keeper c.unsnap.new.self c.args.pass.now c.unsnap.new.pass c.unsnap.ensures.did);
    }
