use Rattle.std.proofs.Common.{◌+◌, ◌*◌, ℕ, arith, refl, ap}
use Rattle.era_gate.specs.Calls.{StripeToken}
use Rattle.era_gate.specs.Passes.{no_write}
use Rattle.era_stripe_scripts.proofs.BenchSteps.{bench-next, same-stay, same-then}
use Rattle.era_stripe_scripts.proofs.commands.see.Goals as goal

pub returns-clause-bench : goal.returns-clause-bench
returns-clause-bench g c =
    let number : ℕ = c.args.number in
    let enter = c.enter.ensures in
    let look = c.look.ensures in
    bench-next g.D.Disk number number (3 * number + 1) (3 * number + 1) 0 no_write c.args.gate.now c.args.stripe.now c.look.new.self c.args.pass.now c.enter.new.pass c.requires.bench
    (same-then c.args.stripe.now c.enter.new.self c.look.new.self (same-stay c.args.stripe.now c.enter.new.self enter.same (ap (λ (s : StripeToken). s.table) enter.seat))
    (same-stay c.enter.new.self c.look.new.self look.same.1 (ap (λ (s : StripeToken). s.table) look.seat)))
    look.fits (λ opening stands. look.stands opening (enter.stands opening stands)) enter.keeps (omega arith) (omega arith) (λ n low. refl)
