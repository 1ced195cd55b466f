use Rattle.std.proofs.Common.{take}
use Rattle.std.specs.Prelude.{reverse}
use Rattle.era_core.proofs.Latest.{latest-more}
use Rattle.era_core.proofs.lookups.session_is_open.Goals as goal

-- one more happening was followed
pub loop-happening-preserved : goal.loop-happening-preserved
loop-happening-preserved c =
    let l = c.loop-happening in
    rw (latest-more c.args.h.now l.happening-index c.happening-item.result c.loop-happening-test.true c.happening-item.is)
    (c.follow_open-found.ensures (reverse (take l.happening-index c.args.h.now)) l.invariant)
