use Rattle.std.proofs.Common.{◌≡◌, ℕ, ◌+◌, ◌*◌, false, inl, inr, rules, arith, subst, sym}
use Rattle.std.specs.Prelude.{IsTrue, option_copied}
use Rattle.std.specs.List.{AllByRecursion}
use Rattle.std.proofs.lemmas.Bool.{cases_lt}
use Rattle.era_layout.specs.Root.{fields_of}
use Rattle.era_meta.specs.Areas.{IsOutside, IsFreeArea, held_fields}
use Rattle.era_meta.specs.Content.{blocks_of_root}
use Rattle.era_meta.specs.Meaning.{reached}
use Rattle.era_meta.proofs.areas.free_area.Goals as goal

never : IsTrue false → ⊥
never told = cc

pub loop-area-preserved : goal.loop-area-preserved
loop-area-preserved c = λ other lt free.
    let used = reached (fields_of c.args.root.now) (held_fields (option_copied c.args.held)) in
    let no : c.is_free.result ≡ false = search rules in
    elim (cases_lt other c.loop-area.area) [
      | inl before ↦ c.loop-area.invariant other before free
      | inr now ↦
          let same : other ≡ c.loop-area.area = omega arith in
          never (subst IsTrue no (c.is_free.ensures.1
          (subst (λ (size : ℕ). AllByRecursion (IsOutside (3 + c.loop-area.area * size) size) used) (sym c.area_size-size.ensures.value)
          (subst (IsFreeArea (blocks_of_root (fields_of c.args.root.now)) used) same free))))
    ]

pub returns : goal.returns
returns c = λ has. c.loop-area.invariant has.0 (let three = has.1 in omega (arith, three)) has.2
