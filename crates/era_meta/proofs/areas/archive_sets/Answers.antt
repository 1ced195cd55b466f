use Rattle.std.proofs.Common.{◌≡◌, ℕ, ◌+◌, ◌*◌, ◌≤◌, List, ◌∷◌, length, take, drop, sym, ◌∙◌, subst, ap, arith, add-mul}
use Rattle.std.proofs.lemmas.List.{length-append, length-drop}
use Rattle.std.proofs.lemmas.Nat.{mul-le}
use Rattle.std.specs.List.{AllByRecursion}
use Rattle.era_meta.proofs.AreasNumbered.{all_drop, behind, archive-step}
use Rattle.era_meta.proofs.areas.archive_sets.Goals as goal

-- the list that is taken has the width, and as many blocks are left
taken-size : (lists left : List (List ℕ)) (at width : ℕ) (taken : List ℕ) → drop at lists ≡ taken ∷ left → AllByRecursion (λ pages. length pages ≡ width) lists → length taken ≡ width
taken-size lists left at width taken is all =
    (subst (AllByRecursion (λ (pages : List ℕ). length pages ≡ width)) is (all_drop (λ (pages : List ℕ). length pages ≡ width) at lists all)).0

blocks-left : (count at width left : ℕ) → at + 1 ≤ count → count * width ≤ left + at * width → width ≤ left
blocks-left count at width left more enough =
    let all = mul-le (at + 1) width count width more (let e : width ≤ width = omega arith in e) in
    let split = add-mul at 1 width in
    omega arith

pub number_list-requires : goal.number_list-requires
number_list-requires c =
    let width = c.args.width in
    let enough : width ≤ length c.loop-set.free = blocks-left (length c.args.sets.now) c.loop-set.set-index width (length c.loop-set.free) (omega arith) c.loop-set.invariant.blocks in
    let size = taken-size c.args.spare.now _ c.loop-set.set-index width _ (sym c.loop-set.invariant.spare ∙ c.take_first-pages.ensures) c.requires.lists in
    omega (arith, size, enough)

pub loop-set-preserved : goal.loop-set-preserved
loop-set-preserved c =
    let at = c.loop-set.set-index in let lists = c.args.spare.now in let width = c.args.width in
    let taken = c.take_first-pages.result in
    let is : drop at lists ≡ taken ∷ c.take_first-pages.new.self = sym c.loop-set.invariant.spare ∙ c.take_first-pages.ensures in
    let size = taken-size lists _ at width taken is c.requires.lists in
    let numbers = c.number_list.ensures.pages ∙ ap (λ (n : ℕ). take n c.loop-set.free) size in
    let left : c.number_list.new.free ≡ drop width c.loop-set.free = c.number_list.ensures.left ∙ ap (λ (n : ℕ). drop n c.loop-set.free) size in
    let rest = length-drop width c.loop-set.free in let enough = c.loop-set.invariant.blocks in let count = ap length left in let split = add-mul at 1 width in
    record {
      sets = rw (c.push_reserved.ensures, left) (archive-step c.loop-set.archive c.loop-set.free width at c.args.sets.now _ c.set-item.result _ (omega arith) c.set-item.is c.era.ensures numbers c.loop-set.invariant.sets);
      count = rw (c.push_reserved.ensures, length-append) (omega (arith, c.loop-set.invariant.count));
      spare = behind lists at taken c.take_first-pages.new.self is;
      blocks = omega arith;
    }
