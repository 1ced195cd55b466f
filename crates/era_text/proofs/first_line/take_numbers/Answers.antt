use Rattle.std.proofs.Common.{◌<◌, refl, ap, subst}
use Rattle.std.specs.Prelude.{Err}
use Rattle.era_base.specs.declared.limits.TheConstants.{MOST_BLOCKS}
use Rattle.era_text.proofs.Geometries.{not-geometry}
use Rattle.era_text.proofs.first_line.take_numbers.Goals as goal

pub returns-in_default : goal.returns-in_default
returns-in_default c =
    let none = not-geometry c.args.sectors c.args.size c.in_default.field-0
    (λ is. c.in_default.ensures.block_size.0 (ap Err is))
    (λ is. (c.in_default.ensures.none.0 (ap Err is)).1)
    (λ count is. let many = (c.in_default.ensures.many count).0 (ap Err is) in subst (λ blocks. MOST_BLOCKS < blocks) many.1 many.2) in
    rw none refl
