use Rattle.std.proofs.Common.{◌*◌, ℕ}
use Rattle.era_keeper_scripts.proofs.BenchSteps.{bench-next, status-keeps}
use Rattle.era_keeper_scripts.proofs.commands.status.Goals as goal

pub returns : goal.returns
returns g c =
    let number : ℕ = c.args.number in
    record {
      bench = bench-next g.D.Disk (2 * number) c.args.gate.now c.ready.new.keeper c.status.new.self c.args.pass.now c.status.new.pass c.in_ok-id.ensures.bench c.status.ensures.same c.status.ensures.fits
          (status-keeps g.D.Disk c.in_ok-id.id c.status.result c.ready.new.keeper c.status.new.self c.args.pass.now c.status.new.pass c.status.ensures.did);
    }
