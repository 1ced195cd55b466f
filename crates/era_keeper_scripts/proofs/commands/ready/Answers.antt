use Rattle.std.proofs.Common.{◌*◌, ℕ, arith}
use Rattle.era_keeper_scripts.proofs.BenchSteps.{bench-admitted}
use Rattle.era_keeper_scripts.proofs.commands.ready.Goals as goal

pub returns-clause-bench : goal.returns-clause-bench
returns-clause-bench g c =
    let number : ℕ = c.args.number in
    bench-admitted g.D.Disk (2 * number) c.args.gate.now c.args.keeper.now c.admit.new.self c.args.pass.now c.requires.bench c.admit.ensures.same.0 c.admit.ensures.same.1 c.admit.ensures.fits

pub returns-clause-may : goal.returns-clause-may
returns-clause-may g c =
    let bench = returns-clause-bench g c in
    record {
      fits = bench.fits;
      table = bench.table;
      pass_table = bench.pass_table;
      lane = bench.lane;
      budget = omega (arith, bench.budget, c.requires.few);
      room = omega (arith, c.admit.ensures.entries);
    }
