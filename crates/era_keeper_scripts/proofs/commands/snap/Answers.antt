use Rattle.std.proofs.Common.{◌*◌, ℕ}
use Rattle.era_keeper_scripts.proofs.BenchSteps.{bench-next, snap-keeps}
use Rattle.era_keeper_scripts.proofs.commands.snap.Goals as goal

pub returns : goal.returns
returns g c =
    let number : ℕ = c.args.number in
    record {
      bench = bench-next g.D.Disk (2 * number) c.args.gate.now c.ready.new.keeper c.snap.new.self c.args.pass.now c.snap.new.pass c.in_ok-id.ensures.bench c.snap.ensures.same c.snap.ensures.fits
          (snap-keeps g.D.Disk c.in_ok-id.id c.snap.result c.ready.new.keeper c.snap.new.self c.args.pass.now c.snap.new.pass c.snap.ensures.did);
    }
