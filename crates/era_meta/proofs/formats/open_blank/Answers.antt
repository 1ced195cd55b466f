use Rattle.era_meta.proofs.FormatsKept.{opened-found, slots-refuse}
use Rattle.era_meta.proofs.formats.open_blank.Goals as goal

-- a slot is the active one
pub returns-in-Ok-Whole-clause-refused : goal.returns-in-Ok-Whole-clause-refused
returns-in-Ok-Whole-clause-refused g c = rw c.into_disk.ensures
    (opened-found g.D.Disk c.args.disk c.in-Ok-Whole.field-0 c.in-Ok-Whole.slots _ _ _ _ c.in-Ok-Whole.field-0-is c.in-Ok-Whole.ensures.moments
    c.in-Ok-Whole.ensures.told c.in-Ok-Whole.ensures.shape c.in-Ok-Whole.ensures.calls)

-- the slots weren't opened
pub returns-clause-refused : goal.returns-clause-refused
returns-clause-refused g c = rw c.of_slots.ensures
    (slots-refuse g.D.Disk c.args.disk c.in-Err.refusal.disk c.in-Err.refusal.error c.in-Err.ensures.moments c.in-Err.ensures.told c.in-Err.ensures.calls)
