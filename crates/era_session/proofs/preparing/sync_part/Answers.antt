use Rattle.era_session.proofs.SyncedParts.{part-failed, part-synced}
use Rattle.era_session.proofs.preparing.sync_part.Goals as goal

pub returns-in_default : goal.returns-in_default
returns-in_default g c =
    part-failed g.D.Disk c.args.part.now c.sync.new.self _ c.faults.result (g.met.D.Disk.whole c.args.part.now) c.in_default.ensures.told
    (record { place = c.sync.ensures.place; size = c.sync.ensures.size }) c.faults.ensures c.in_default.ensures.cause.failed

pub returns : goal.returns
returns g c =
    part-synced g.D.Disk c.args.part.now c.sync.new.self (g.met.D.Disk.whole c.args.part.now) c.in-Ok.ensures.told
    (record { place = c.sync.ensures.place; size = c.sync.ensures.size }) c.in-Ok.ensures.cause.kept
