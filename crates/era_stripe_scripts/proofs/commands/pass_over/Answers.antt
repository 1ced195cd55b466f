use Rattle.std.proofs.Common.{◌+◌, ◌*◌, ℕ, arith, refl}
use Rattle.era_gate.specs.Passes.{no_write}
use Rattle.era_stripe_scripts.proofs.BenchSteps.{bench-next, same-rest, passed-keeps}
use Rattle.era_stripe_scripts.proofs.commands.pass_over.Goals as goal

pub returns-clause-bench : goal.returns-clause-bench
returns-clause-bench g c =
    let number : ℕ = c.args.number in
    let did = c.pass_over.ensures in
    bench-next g.D.Disk number (number + 1) (3 * number + 1) (3 * number + 3) 1 no_write c.args.gate.now c.args.stripe.now c.pass_over.new.self c.args.pass.now c.pass_over.new.pass c.requires.bench
    (same-rest c.args.stripe.now c.pass_over.new.self did.same did.stay.table) did.fits (λ opening stands. did.stands opening c.requires.stuck.new stands) (passed-keeps _ _ _ _ _ _ _ did.drew) (omega arith) (omega arith) (λ n low. refl)
