use Rattle.std.proofs.Common.{◌≡◌, ◌+◌, ◌*◌, None, length, refl, ap, ◌∙◌, subst, arith}
use Rattle.era_base.specs.declared.limits.TheConstants.{MOST_SETS}
use Rattle.era_layout.specs.Root.{fields_of}
use Rattle.era_model.specs.Marks.{BlockMarks}
use Rattle.era_meta.specs.Parts.{IsRoomOf}
use Rattle.era_meta.specs.Placing.{IsPlaced}
use Rattle.era_meta.proofs.FirstParts.{first-pages, first-parts}
use Rattle.era_meta.proofs.formatting.parts_of_marks.Goals as goal

pub returns : goal.returns
returns c =
    let m = c.args.marks in let root = c.prepare.new.next in let beside = c.in_ok-next.next in let snapshot = c.in_ok-snapshot.snapshot in
    let next = subst (λ (m : BlockMarks). IsRoomOf m.sectors m.block_sectors (fields_of beside)) c.marks.view_is c.in_ok-next.ensures.room in
    let held = subst (λ (m : BlockMarks). IsRoomOf m.sectors m.block_sectors (fields_of snapshot.root)) c.marks.view_is c.in_ok-snapshot.ensures.root in
    let for = c.prepare.ensures.marks m next.sectors_same next.size_same c.era.ensures c.archive.ensures in
    let placed : IsPlaced (fields_of beside) (fields_of root) None = c.prepare.ensures.placed in
    let total : length root.archive + length c.prepare.new.spare ≡ 3 * MOST_SETS
    = let sum = c.prepare.ensures.lists.1 in let none = ap length c.in_ok-root.ensures.room.archive in let count = c.in_ok-spare.ensures.count in omega arith in
    record {
      marks = refl;
      valid = c.prepare.ensures.valid m c.are_valid.ensures for;
      fit = first-parts m root beside snapshot c.prepare.new.spare next c.in_ok-next.ensures.zeros for placed c.are_valid.ensures.few_sets c.prepare.ensures.lists.0 total held
          (ap (λ (n : BlockMarks). n.sectors) c.in_ok-snapshot.ensures.marks ∙ ap (λ (n : BlockMarks). n.sectors) c.marks.view_is)
          (ap (λ (n : BlockMarks). n.block_sectors) c.in_ok-snapshot.ensures.marks ∙ ap (λ (n : BlockMarks). n.block_sectors) c.marks.view_is);
      flag = placed.fresh.flag ∙ next.none;
      none = c.in_ok-snapshot.ensures.none;
      pages = first-pages m (fields_of root) (fields_of beside) next c.in_ok-next.ensures.zeros for placed c.are_valid.ensures.few_sets;
    }
