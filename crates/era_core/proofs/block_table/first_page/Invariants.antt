use Rattle.std.proofs.Common.{◌≡◌, drop}
use Rattle.era_model.specs.Digest.{first_untranscribed}
use Rattle.era_core.proofs.block_table.first_page.Given as goal

abbrev pub invariant-loop-block : goal.invariant-loop-block
invariant-loop-block l = first_untranscribed l.set.era l.set.blocks l.array 0 ≡ first_untranscribed l.set.era (drop l.block l.set.blocks) l.array l.block
