use Rattle.era_session.specs.Openings.{AreSyncedBelow}
use Rattle.era_session.proofs.preparing.sync_parts.Given as goal

-- the parts so far were synced
abbrev pub invariant-loop-index : goal.invariant-loop-index
invariant-loop-index g l = record {
  synced : AreSyncedBelow g.D.Disk l.index l.initial.parts.items l.parts.items;
}
