use Rattle.era_meta.specs.Formatting.{marks_alone}
use Rattle.era_meta.proofs.WipedImages.{quiet-restoring, restoring-leaves}
use Rattle.era_meta.proofs.restoring.restore_disk.Goals as goal

-- the disk wasn't wiped
pub returns-in-Err-clause-moments : goal.returns-in-Err-clause-moments
returns-in-Err-clause-moments g c = λ told. quiet-restoring (marks_alone c.args.parts.marks) _ _ (c.in-Err.ensures.moments told)

-- all was stored
pub returns-in-Ok-format_slots-clause-moments : goal.returns-in-Ok-format_slots-clause-moments
returns-in-Ok-format_slots-clause-moments g c = rw c.joined.ensures (λ told.
    restoring-leaves (marks_alone c.args.parts.marks) (g.D.Disk.history c.args.disk) (g.D.Disk.history c.in-Ok.slots.disk) (g.D.Disk.history c.format_slots.new.slots.disk)
    (c.in-Ok.ensures.moments told) (c.format_slots.ensures.moments told))

-- a write or a sync failed
pub returns-in-Err-format_slots-clause-moments : goal.returns-in-Err-format_slots-clause-moments
returns-in-Err-format_slots-clause-moments g c = rw c.into_disk.ensures (λ told.
    restoring-leaves (marks_alone c.args.parts.marks) (g.D.Disk.history c.args.disk) (g.D.Disk.history c.in-Ok.slots.disk) (g.D.Disk.history c.format_slots.new.slots.disk)
    (c.in-Ok.ensures.moments told) (c.format_slots.ensures.moments told))
