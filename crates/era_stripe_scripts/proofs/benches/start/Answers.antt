use Rattle.std.proofs.Common.{rules, ◌≡◌, arith, refl, sym, ap, ◌∙◌}
use Rattle.era_base.specs.declared.geometry.Geometry.{Geometry}
use Rattle.era_gate.specs.Calls.{PassToken, StripeToken, has_gone}
use Rattle.era_gate.specs.declared.plan.Plan.{Plan}
use Rattle.era_model.specs.Journal.{session_opening}
use Rattle.era_model.specs.declared.opening.Opening.{Opening}
use Rattle.era_stripe.specs.Stripes.{IsPartOf, part_of}
use Rattle.era_stripe_scripts.specs.Benches.{command}
use Rattle.era_stripe_scripts.proofs.BenchStart.{blank-clean, clean-holds}
use Rattle.era_stripe_scripts.proofs.benches.start.Goals as goal

pub returns-clause-bench : goal.returns-clause-bench
returns-clause-bench g c =
    let size = c.in-Ok.ensures.ok in
    let parts = c.start-stripe.ensures.parts in
    let made = c.in_ok-gate.ensures in
    let of_gate : c.remove-seat.result.table ≡ c.in_ok-gate.gate.table = search rules in
    let state = (g.D.Disk.history c.args.disk).now in
    let opening : Opening = session_opening c.in-Ok.geometry state.seen in
    let sectors = ap (λ (g : Geometry). g.block_sectors) parts.3 in
    let of_part : IsPartOf opening c.in-Ok.geometry (part_of c.start-stripe.result) =
    record { sectors = refl; block_sectors = refl; size = sectors; blocks = rw (parts.4, parts.5, size.0, size.1) (omega arith) } in
    let first = c.mark.ensures in
    let second = c.mark-2.ensures in
    record {
      table = ap (λ (s : StripeToken). s.table) parts.1 ∙ of_gate;
      pass_table = second.pass.0 ∙ first.pass.0 ∙ ap (λ (t : PassToken). t.table) made.pass;
      covers = ap (λ (p : Plan). p.blocks) made.plan ∙ rw (size.0, size.1) refl;
      part = record { sectors = ap (λ (g : Geometry). g.sectors) parts.3 ∙ size.0; size = sectors ∙ size.1; first = parts.4; blocks = parts.5 };
      fits = c.start-stripe.ensures.fits;
      stands = (opening, c.start-stripe.ensures.stands opening of_part (λ told. clean-holds opening (part_of c.start-stripe.result) state (sym sectors) parts.4 refl (blank-clean state (c.requires.blank told))));
      lane = second.pass.1;
      budget = omega (arith, ap (λ (t : PassToken). t.part.budget) made.pass, first.pass.2, second.pass.2);
      fresh = λ n low. second.gone (command n) ∙ first.gone (command n) ∙ ap (λ (t : PassToken). has_gone (command n) t.part.lanes) made.pass;
    }
