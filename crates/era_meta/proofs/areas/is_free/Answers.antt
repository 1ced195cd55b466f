use Rattle.std.proofs.Common.{◌≡◌, false, inl, rules, arith, subst}
use Rattle.std.specs.Prelude.{IsTrue, option_copied}
use Rattle.era_layout.specs.Root.{fields_of}
use Rattle.era_meta.specs.Areas.{IsOutside, held_fields}
use Rattle.era_meta.proofs.AreasFree.{all_own, all_held, all_reached}
use Rattle.era_meta.proofs.areas.is_free.Goals as goal

never : IsTrue false → ⊥
never told = cc

pub returns-then-not-is_outside : goal.returns-then-not-is_outside
returns-then-not-is_outside c =
    let P = IsOutside c.args.first c.args.count in
    let no : c.is_outside.result ≡ false = search rules in (
      λ told. absurd (never told),
      λ all. subst IsTrue no (c.is_outside.ensures.1 (all_own P (fields_of c.args.root.now) (held_fields (option_copied c.args.held)) all)),
    )

pub returns-in-Some : goal.returns-in-Some
returns-in-Some c =
    let P = IsOutside c.args.first c.args.count in let root = fields_of c.args.root.now in let held = fields_of c.in-Some.held.now in
    let own : IsTrue c.is_outside.result = search rules in
    rw c.in-Some.is (
      λ told. all_reached P root held (c.is_outside.ensures.0 own) (inl (omega (arith, c.requires.behind))) (c.is_outside-in-Some.ensures.0 told),
      λ all. c.is_outside-in-Some.ensures.1 (all_held P root held all),
    )
