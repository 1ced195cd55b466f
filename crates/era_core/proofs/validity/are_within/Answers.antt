use Rattle.std.proofs.Common.{◌≡◌, arith, refl}
use Rattle.std.proofs.lemmas.Bool.{false≢true}
use Rattle.era_core.proofs.Tables.{era-of}
use Rattle.era_core.proofs.Validating.{entries-within}
use Rattle.era_core.proofs.validity.are_within.Goals as goal

-- the block's entry is above the limit
pub returns-then-limit-run_era : goal.returns-then-limit-run_era
returns-then-limit-run_era c =
    let i = c.loop-block.block in (
      λ h. absurd (false≢true h),
      λ all. let within = rw (era-of c.args.blocks c.args.runs.now i c.loop-block-test.true) at (all i) in absurd (omega (arith, within, c.run_era.ensures, c.if-limit-run_era.true)),
    )

-- no block's is
pub returns : goal.returns
returns c =
    let at_end : c.loop-block.block ≡ c.args.blocks = omega arith in
    (λ h. entries-within c.args.blocks c.args.limit c.args.runs.now (rw at_end at c.loop-block.invariant), λ all. refl)
