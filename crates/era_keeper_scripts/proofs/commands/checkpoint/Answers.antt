use Rattle.std.proofs.Common.{◌*◌, ℕ}
use Rattle.era_keeper_scripts.proofs.BenchSteps.{bench-next, checkpoint-keeps}
use Rattle.era_keeper_scripts.proofs.commands.checkpoint.Goals as goal

pub returns : goal.returns
returns g c =
    let number : ℕ = c.args.number in
    record {
      bench = bench-next g.D.Disk (2 * number) c.args.gate.now c.ready.new.keeper c.checkpoint.new.self c.args.pass.now c.checkpoint.new.pass c.in_ok-id.ensures.bench c.checkpoint.ensures.same c.checkpoint.ensures.fits
          (checkpoint-keeps g.D.Disk c.in_ok-id.id c.checkpoint.result c.ready.new.keeper c.checkpoint.new.self c.args.pass.now c.checkpoint.new.pass c.checkpoint.ensures.did);
    }
