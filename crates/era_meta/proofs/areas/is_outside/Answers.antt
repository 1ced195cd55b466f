use Rattle.std.proofs.Common.{◌≡◌, false, rules, subst, sym}
use Rattle.std.specs.Prelude.{All, IsTrue}
use Rattle.era_layout.specs.declared.archive.Archived.{Archived}
use Rattle.era_layout.specs.Root.{fields_of}
use Rattle.era_meta.specs.Areas.{IsOutside}
use Rattle.era_meta.proofs.AreasLists.{all_of_root, array_of_root, current_of_root, archive_of_root}
use Rattle.era_meta.proofs.areas.is_outside.Goals as goal

never : IsTrue false → ⊥
never told = cc

pub returns-then-not-are_outside : goal.returns-then-not-are_outside
returns-then-not-are_outside c =
    let P = IsOutside c.args.first c.args.count in
    let no : c.are_outside.result ≡ false = search rules in (
      λ told. absurd (never told),
      λ all. subst IsTrue no (c.are_outside.ensures.1 (subst (All P) (sym c.as_slice.ensures) (array_of_root P (fields_of c.args.root.now) all))),
    )

pub returns-then-not-are_outside-2 : goal.returns-then-not-are_outside-2
returns-then-not-are_outside-2 c =
    let P = IsOutside c.args.first c.args.count in
    let no : c.are_outside-2.result ≡ false = search rules in (
      λ told. absurd (never told),
      λ all. subst IsTrue no (c.are_outside-2.ensures.1 (subst (All P) (sym c.as_slice-2.ensures) (current_of_root P (fields_of c.args.root.now) all))),
    )

pub returns : goal.returns
returns c =
    let P = IsOutside c.args.first c.args.count in let root = fields_of c.args.root.now in
    let Q = λ (set : Archived). All P set.pages in
    let array : IsTrue c.are_outside.result = search rules in
    let current : IsTrue c.are_outside-2.result = search rules in (
      λ told. all_of_root P root (subst (All P) c.as_slice.ensures (c.are_outside.ensures.0 array)) (subst (All P) c.as_slice-2.ensures (c.are_outside-2.ensures.0 current))
          (subst (All Q) c.as_slice-3.ensures (c.are_sets_outside.ensures.0 told)),
      λ all. c.are_sets_outside.ensures.1 (subst (All Q) (sym c.as_slice-3.ensures) (archive_of_root P root all)),
    )
