use Rattle.std.proofs.Common.{◌*◌, ℕ}
use Rattle.era_keeper_scripts.proofs.BenchSteps.{bench-next, digest-keeps}
use Rattle.era_keeper_scripts.proofs.commands.digest.Goals as goal

pub returns : goal.returns
returns g c =
    let number : ℕ = c.args.number in
    record {
      bench = bench-next g.D.Disk (2 * number) c.args.gate.now c.ready.new.keeper c.digest.new.self c.args.pass.now c.digest.new.pass c.in_ok-id.ensures.bench c.digest.ensures.same c.digest.ensures.fits
          (digest-keeps g.D.Disk c.in_ok-id.id c.digest.result c.ready.new.keeper c.digest.new.self c.args.pass.now c.digest.new.pass c.digest.ensures.did);
    }
