use Rattle.std.proofs.Common.{◌∙◌, ◌<◌, arith, false, length, get_or, ap, sym}
use Rattle.std.proofs.lemmas.Bool.{false≢true}
use Rattle.std.proofs.lemmas.List.{take_more}
use Rattle.era_core.proofs.Tables.{agree, differ, flag-of, flags-length, flags-push}
use Rattle.era_core.proofs.block_lists.are_flags.Goals as goal

-- there are more or fewer flags
pub returns-then-flags-blocks : goal.returns-then-flags-blocks
returns-then-flags-blocks c = (λ h. absurd (false≢true h), λ same. absurd (c.if-flags-blocks.true (ap length same ∙ flags-length 0 c.args.blocks c.args.runs.now)))

-- the block's flag is another one
pub returns-then-flags-block : goal.returns-then-flags-block
returns-then-flags-block c =
    let i = c.loop-block.block in (
      λ h. absurd (false≢true h),
      λ same. let e = ap (λ l. get_or l i false) same ∙ flag-of c.args.blocks c.args.runs.now i c.loop-block-test.true in differ _ _ c.if-flags-block.true (rw c.is_covered.ensures e),
    )

-- one more flag is the same
pub loop-block-preserved : goal.loop-block-preserved
loop-block-preserved c =
    let i = c.loop-block.block in
    let lt : i < length c.args.flags.now = omega arith in
    let same = agree _ _ c.if-flags-block.false in
    take_more c.args.flags.now i false lt ∙ (rw (c.loop-block.invariant, same, c.is_covered.ensures) (sym (flags-push i c.args.runs.now)))
