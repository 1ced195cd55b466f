use Rattle.era_base.proofs.SyncedWrites.{went-synced}
use Rattle.era_base.proofs.synced.write_synced.Goals as goal

-- the sync failed
pub returns-in_default-sync-clause-moments : goal.returns-in_default-sync-clause-moments
returns-in_default-sync-clause-moments g c = λ told.
    let write = c.in-Ok.ensures.told told in
    went-synced _ _ _ c.sync.result (g.D.Disk.history c.args.disk.now) (g.D.Disk.history c.write.new.self) (g.D.Disk.history c.sync.new.self)
    write.time write.outcome.same (g.met.D.Disk.whole c.write.new.self told) (c.sync.ensures.told told)

-- both answered Ok
pub returns-clause-moments : goal.returns-clause-moments
returns-clause-moments g c = λ told.
    let write = c.in-Ok.ensures.told told in
    went-synced _ _ _ c.sync.result (g.D.Disk.history c.args.disk.now) (g.D.Disk.history c.write.new.self) (g.D.Disk.history c.sync.new.self)
    write.time write.outcome.same (g.met.D.Disk.whole c.write.new.self told) (c.sync.ensures.told told)
