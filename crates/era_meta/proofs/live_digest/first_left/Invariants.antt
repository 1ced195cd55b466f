use Rattle.std.proofs.Common.{◌≡◌, drop}
use Rattle.era_model.specs.Digest.{first_untranscribed}
use Rattle.era_meta.proofs.live_digest.first_left.Given as goal

-- no block before is left
abbrev pub invariant-loop-block : goal.invariant-loop-block
invariant-loop-block l = first_untranscribed l.set.era l.set.blocks l.array 0 ≡ first_untranscribed l.set.era (drop l.block l.set.blocks) l.array l.block
