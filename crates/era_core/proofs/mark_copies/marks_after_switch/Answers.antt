use Rattle.std.proofs.Common.{◌≡◌, ◌∙◌, true, false, length, subst, arith, IfOk}
use Rattle.std.specs.Prelude.{nat_lt, if◌then◌else◌}
use Rattle.std.proofs.lemmas.Bool.Decides.{nat_tests}
use Rattle.era_base.specs.Geometry.{blocks_of}
use Rattle.era_model.specs.Marks.{with_current_archived, with_oldest_merged}
use Rattle.era_core.proofs.Tables.{sets-length}
use Rattle.era_core.proofs.mark_copies.marks_after_switch.Goals as goal
use Rattle.era_core.proofs.mark_copies.marks_after_switch.Goals.{then-as_slice+in_ok-before, else-as_slice+in_ok-before-2}

-- where sixteen sets are archived, the oldest was merged first
pub returns : goal.returns
returns c =
    let marks = c.args.marks.now in
    let size : length marks.archive ≡ length c.as_slice.result.now =
    rw (← c.marks.view_is, c.as_slice.ensures) (sets-length (blocks_of c.marks.inside.geometry.sectors c.marks.inside.geometry.block_sectors) c.marks.inside.archive) in
    let before : c.if-as_slice.before ≡ (if nat_lt (length marks.archive) 16 then marks else with_oldest_merged marks marks.archive) =
    elim c.if-as_slice.branch [
      | then-as_slice+in_ok-before w ↦
          let few : nat_lt (length marks.archive) 16 ≡ true = grind (arith, nat_tests, size, w.if-as_slice.true) in rw few (w.before-is ∙ w.in_ok-before.ensures)
      | else-as_slice+in_ok-before-2 w ↦
          let many : nat_lt (length marks.archive) 16 ≡ false = grind (arith, nat_tests, size, w.if-as_slice.false) in rw many (w.before-is ∙ w.in_ok-before-2.ensures)
    ] in
    subst (λ m. IfOk c.in_next_era.result (λ after. after ≡ with_current_archived m)) before c.in_next_era.ensures
