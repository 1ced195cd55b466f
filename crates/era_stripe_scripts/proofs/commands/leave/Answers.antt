use Rattle.std.proofs.Common.{◌+◌, ◌*◌, ℕ, arith, refl, ap}
use Rattle.era_gate.specs.Calls.{StripeToken}
use Rattle.era_gate.specs.Passes.{no_write}
use Rattle.era_stripe_scripts.proofs.BenchSteps.{bench-next, same-stay}
use Rattle.era_stripe_scripts.proofs.commands.leave.Goals as goal

pub returns-clause-bench : goal.returns-clause-bench
returns-clause-bench g c =
    let number : ℕ = c.args.number in
    let leave = c.leave.ensures in
    bench-next g.D.Disk number (number + 1) (3 * number + 1) (3 * number + 3) 0 no_write c.args.gate.now c.args.stripe.now c.leave.new.self c.args.pass.now c.leave.new.pass c.requires.bench
    (same-stay c.args.stripe.now c.leave.new.self leave.same (ap (λ (s : StripeToken). s.table) leave.seat)) leave.fits leave.stands leave.pass.keeps (omega arith) (omega arith) (λ n low. refl)
