use Rattle.std.proofs.Common.{◌*◌, ℕ}
use Rattle.era_keeper_scripts.proofs.BenchSteps.{bench-next, list-keeps}
use Rattle.era_keeper_scripts.proofs.commands.blocks.Goals as goal

pub returns : goal.returns
returns g c =
    let number : ℕ = c.args.number in
    record {
      bench = bench-next g.D.Disk (2 * number) c.args.gate.now c.ready.new.keeper c.list.new.self c.args.pass.now c.list.new.pass c.in_ok-id.ensures.bench c.list.ensures.same c.list.ensures.fits
          (list-keeps g.D.Disk c.in_ok-id.id c.args.since c.args.snap c.list.result c.ready.new.keeper c.list.new.self c.args.pass.now c.list.new.pass c.list.ensures.did);
    }
