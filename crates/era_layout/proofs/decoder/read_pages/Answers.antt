use Rattle.std.proofs.Common.{refl}
use Rattle.era_layout.proofs.ListFields.{u32s_at_more}
use Rattle.era_layout.proofs.decoder.read_pages.Goals as goal

pub loop-index-preserved : goal.loop-index-preserved
loop-index-preserved c =
    rw (c.in_ok-push.ensures.ok, c.loop-index.invariant, c.read_u32.ensures, u32s_at_more) refl
