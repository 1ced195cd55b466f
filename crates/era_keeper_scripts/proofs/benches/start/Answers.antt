use Rattle.std.proofs.Common.{◌≡◌, false, None, rules, arith, refl, sym, ap, ◌∙◌}
use Rattle.era_gate.specs.Calls.{KeeperToken, PassToken}
use Rattle.era_gate.specs.declared.plan.Plan.{Plan}
use Rattle.era_meta.specs.declared.metadata.Meta.{Meta}
use Rattle.era_keeper_scripts.proofs.benches.start.Goals as goal

pub start-keeper-requires-clause-meta : goal.start-keeper-requires-clause-meta
start-keeper-requires-clause-meta g c =
    let begun = c.in-Ok-start.ensures.begun in
    record {
      standing = begun.standing;
      stored = begun.stored;
      fresh = begun.fresh;
      below = begun.numbered.1;
    }

pub returns-clause-bench : goal.returns-clause-bench
returns-clause-bench g c =
    let begun = c.in-Ok-start.ensures.begun in
    let fit = begun.standing.fit in
    let made = c.in_ok-gate.ensures in
    let parts = c.start-keeper.ensures.parts in
    let size = c.in-Ok.ensures.ok in
    record {
      table = ap (λ (s : KeeperToken). s.table) parts.1 ∙ ap (λ (s : KeeperToken). s.table) made.keeper;
      pass_table = ap (λ (t : PassToken). t.table) made.pass;
      covers = ap (λ (p : Plan). p.blocks) made.plan ∙ rw (size.0, size.1) refl;
      blocks = record {
        sectors = ap (λ (m : Meta g.row.D.Denot). m.marks.sectors) parts.0 ∙ sym fit.sectors ∙ begun.geometry.0 ∙ size.0;
        size = ap (λ (m : Meta g.row.D.Denot). m.marks.block_sectors) parts.0 ∙ sym fit.block_sectors ∙ begun.geometry.1 ∙ size.1;
      };
      fits = c.start-keeper.ensures.fits;
      lane = made.lanes 0 (omega arith);
      budget = omega (arith, ap (λ (t : PassToken). t.part.budget) made.pass);
    }

pub returns-clause-outside : goal.returns-clause-outside
returns-clause-outside g c =
    let table : c.remove-stripe.result.table ≡ c.in_ok-gate.gate.table = search rules in
    let outside : c.remove-stripe.result.part.state.inside ≡ false = search rules in
    let idle : c.remove-stripe.result.part.state.flight ≡ None = search rules in
    record { table = table; outside = outside; idle = idle }
