use Rattle.std.proofs.Common.{◌+◌, ◌*◌, ℕ, arith, refl, sym, subst}
use Rattle.era_gate.specs.Passes.{no_write}
use Rattle.era_stripe.specs.Stripes.{ViewStands}
use Rattle.era_stripe_scripts.proofs.BenchSteps.{admitted, bench-next, same-bench, same-then, settled-keeps}
use Rattle.era_stripe_scripts.proofs.commands.settle.Goals as goal

pub returns-clause-bench : goal.returns-clause-bench
returns-clause-bench g c =
    let number : ℕ = c.args.number in
    let admit = c.admit.ensures in
    let did = c.settle.ensures in
    let keeps = settled-keeps g.D.Disk _ _ _ _ _ _ _ did.did in
    bench-next g.D.Disk number number (3 * number) (3 * number + 1) keeps.0 no_write c.args.gate.now c.args.stripe.now c.settle.new.self c.args.pass.now c.settle.new.pass c.requires.bench
    (same-then c.args.stripe.now c.admit.new.self c.settle.new.self (admitted g.D.Disk c.args.stripe.now c.admit.new.self admit.view admit.same.1) (same-bench g.D.Disk c.admit.new.self c.settle.new.self did.same))
    did.fits (λ opening stands. did.stands opening (subst (ViewStands g.D.Disk.tells opening) (sym admit.view) stands)) keeps.2 (omega (arith, keeps.1)) (omega arith) (λ n low. refl)
