use Rattle.std.proofs.Common.{◌∙◌, ◌<◌, length, get_or, ap, sym, arith}
use Rattle.std.proofs.lemmas.Bool.{false≢true}
use Rattle.std.proofs.lemmas.List.{take_more}
use Rattle.era_core.proofs.Tables.{era-of, eras-length, eras-push}
use Rattle.era_core.proofs.block_lists.are_entries.Goals as goal

-- there are more or fewer entries
pub returns-then-entries-blocks : goal.returns-then-entries-blocks
returns-then-entries-blocks c = (λ h. absurd (false≢true h), λ same. absurd (c.if-entries-blocks.true (ap length same ∙ eras-length 0 c.args.blocks c.args.runs.now)))

-- the block's entry is another one
pub returns-then-entries-block : goal.returns-then-entries-block
returns-then-entries-block c =
    let i = c.loop-block.block in (
      λ h. absurd (false≢true h),
      λ same. let e = ap (λ l. get_or l i 0) same ∙ era-of c.args.blocks c.args.runs.now i c.loop-block-test.true in absurd (c.if-entries-block.true (rw (c.from.ensures, c.run_era.ensures) e)),
    )

-- one more entry is the same
pub loop-block-preserved : goal.loop-block-preserved
loop-block-preserved c =
    let i = c.loop-block.block in
    let lt : i < length c.args.entries.now = omega arith in
    take_more c.args.entries.now i 0 lt ∙ (rw (c.loop-block.invariant, c.if-entries-block.false, c.from.ensures, c.run_era.ensures) (sym (eras-push i c.args.runs.now)))
