use Rattle.std.proofs.Common.{◌∙◌, ◌<◌, arith, refl, length, get_or, ap, sym}
use Rattle.std.proofs.lemmas.Bool.{false≢true}
use Rattle.std.proofs.lemmas.List.{take_more}
use Rattle.era_core.proofs.Tables.{set-of, sets-length, sets-push}
use Rattle.era_core.proofs.block_lists.are_sets.Goals as goal

-- there are more or fewer sets
pub returns-then-sets-marked : goal.returns-then-sets-marked
returns-then-sets-marked c = (λ h. absurd (false≢true h), λ same. absurd (c.if-sets-marked.true (ap length same ∙ sets-length c.args.blocks c.args.marked.now)))

-- one of them is another one
pub returns-then-not-is_set : goal.returns-then-not-is_set
returns-then-not-is_set c =
    let i = c.loop-index.index in
    let lt : i < length c.args.marked.now = omega arith in (
      λ h. absurd (false≢true h),
      λ same. let e = ap (λ l. get_or l i c.index-sets-index.result) same ∙ set-of c.args.blocks c.args.marked.now i c.index-sets-index.result c.index-marked-index.result lt c.index-marked-index.is in
          c.if-not-is_set.ensures.1 (c.index-sets-index.is ∙ e),
    )

-- one more set is the same
pub loop-index-preserved : goal.loop-index-preserved
loop-index-preserved c =
    let i = c.loop-index.index in
    let lt : i < length c.args.marked.now = omega arith in
    let more = rw (← c.index-sets-index.is) at (take_more c.args.sets.now i c.index-sets-index.result c.loop-index-test.true) in
    let is = c.if-not-is_set.ensures.0 refl in
    more ∙ (rw (c.loop-index.invariant, is) (sym (sets-push c.args.blocks c.args.marked.now i c.index-marked-index.result lt c.index-marked-index.is)))
