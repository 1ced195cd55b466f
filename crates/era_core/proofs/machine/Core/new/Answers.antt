use Rattle.std.proofs.Common.{◌≡◌, [], ◌∷◌, refl, arith}
use Rattle.std.specs.Prelude.{reverse}
use Rattle.era_model.specs.declared.history.Happening.TheVariants.{Opened}
use Rattle.era_core.proofs.machine.Core.new.Goals as goal

-- all of it is of the opening
pub invariant_of-result : goal.invariant_of-result
invariant_of-result c =
    let h : reverse c.push-2.new.self.items ≡ Opened c.args.opening ∷ [] = rw (c.in_ok-push-2.ensures.items, c.new-happenings.ensures.items) refl in
    rw h (record {
      legal = (c.requires.legal, tt);
      keeps = c.in_ok-upkeep.ensures [] tt;
      few_stripes = omega (arith, c.in_ok-inside.ensures.len, c.in_ok-inside.inside.ok.0, c.requires.legal.few_stripes);
    })
