use Rattle.std.proofs.Common.{◌+◌, ◌*◌, ℕ, arith, refl}
use Rattle.era_gate.specs.Passes.{no_write}
use Rattle.era_stripe_scripts.proofs.BenchSteps.{bench-next, same-rest}
use Rattle.era_stripe_scripts.proofs.commands.refuse.Goals as goal

pub returns-clause-bench : goal.returns-clause-bench
returns-clause-bench g c =
    let number : ℕ = c.args.number in
    let did = c.refuse.ensures in
    bench-next g.D.Disk number (number + 1) (3 * number + 1) (3 * number + 3) 1 no_write c.args.gate.now c.args.stripe.now c.refuse.new.self c.args.pass.now c.refuse.new.pass c.requires.bench
    (same-rest c.args.stripe.now c.refuse.new.self did.same did.stay.table) did.fits (λ opening stands. did.stands opening c.requires.stuck.new stands) did.drew.keeps (omega arith) (omega arith) (λ n low. refl)
