use Rattle.std.proofs.Common.{◌+◌, ◌*◌, ℕ, arith}
use Rattle.era_stripe.specs.Results.{only}
use Rattle.era_stripe_scripts.specs.Benches.{command}
use Rattle.era_stripe_scripts.proofs.BenchSteps.{bench-next, others-than, same-bench}
use Rattle.era_stripe_scripts.proofs.commands.put.Goals as goal

pub returns-in-Ok-clause-bench : goal.returns-in-Ok-clause-bench
returns-in-Ok-clause-bench g c =
    let number : ℕ = c.args.number in
    let did = c.write_seen.ensures in
    bench-next g.D.Disk number (number + 1) (3 * number + 1) (3 * number + 3) 2 (only (command number)) c.args.gate.now c.args.stripe.now c.write_seen.new.self c.args.pass.now c.write_seen.new.pass c.requires.bench
    (same-bench g.D.Disk c.args.stripe.now c.write_seen.new.self did.same) did.fits did.stands c.in-Ok.ensures.drew.keeps (omega arith) (omega arith) (others-than number)

pub returns-in-Err-clause-bench : goal.returns-in-Err-clause-bench
returns-in-Err-clause-bench g c =
    let number : ℕ = c.args.number in
    let did = c.write_seen.ensures in
    bench-next g.D.Disk number (number + 1) (3 * number + 1) (3 * number + 3) 2 (only (command number)) c.args.gate.now c.args.stripe.now c.write_seen.new.self c.args.pass.now c.write_seen.new.pass c.requires.bench
    (same-bench g.D.Disk c.args.stripe.now c.write_seen.new.self did.same) did.fits did.stands c.in-Err.ensures.drew.keeps (omega arith) (omega arith) (others-than number)
