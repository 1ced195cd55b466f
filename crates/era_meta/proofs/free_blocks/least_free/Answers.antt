use Rattle.std.proofs.Common.{◌≡◌, Bool, true, false, length, rules, refl, ap, ◌∙◌, subst, arith}
use Rattle.std.specs.Prelude.{IsTrue, option_copied}
use Rattle.era_layout.specs.Root.{fields_of}
use Rattle.era_meta.specs.Areas.{held_fields, is_unused}
use Rattle.era_meta.specs.Meaning.{reached}
use Rattle.era_meta.proofs.Unused.{free-none, free-skip, free-take, outside-unused, unused-outside}
use Rattle.era_meta.proofs.free_blocks.least_free.Goals as goal

never : IsTrue false → ⊥
never told = cc

truth : (flag : Bool) → (flag ≡ true → ⊥) → flag ≡ false
truth true none = absurd (none refl)
truth false none = refl

pub returns-then-is_free-clause-least : goal.returns-then-is_free-clause-least
returns-then-is_free-clause-least c =
    let used = reached (fields_of c.args.root.now) (held_fields (option_copied c.args.held)) in let block = c.loop-block.block in
    let free : IsTrue c.is_free.result = search rules in
    c.loop-block.invariant.rest ∙ free-take used block c.args.end (omega arith) (outside-unused block 1 block used (omega arith) (omega arith) (c.is_free.ensures.0 free))

pub loop-block-preserved : goal.loop-block-preserved
loop-block-preserved c =
    let used = reached (fields_of c.args.root.now) (held_fields (option_copied c.args.held)) in let block = c.loop-block.block in
    let no : c.is_free.result ≡ false = search rules in
    record {
      from = omega (arith, c.loop-block.invariant.from);
      rest = c.loop-block.invariant.rest ∙ free-skip used block c.args.end (omega arith)
          (truth (is_unused used block) (λ unused. never (subst IsTrue no (c.is_free.ensures.1 (unused-outside block used unused)))));
    }

pub returns-clause-least : goal.returns-clause-least
returns-clause-least c =
    let used = reached (fields_of c.args.root.now) (held_fields (option_copied c.args.held)) in
    let none = ap length (c.loop-block.invariant.rest ∙ free-none used c.loop-block.block c.args.end (omega arith)) in
    absurd (omega (arith, none, c.requires.some))

pub returns-clause-range : goal.returns-clause-range
returns-clause-range c =
    let used = reached (fields_of c.args.root.now) (held_fields (option_copied c.args.held)) in
    let none = ap length (c.loop-block.invariant.rest ∙ free-none used c.loop-block.block c.args.end (omega arith)) in
    absurd (omega (arith, none, c.requires.some))
