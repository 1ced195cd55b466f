use Rattle.std.proofs.Common.{arith}
use Rattle.era_meta.proofs.WipedImages.{fronts-closed, wiping-count, wiping-leaves}
use Rattle.era_meta.proofs.restoring.wipe_disk.Goals as goal

pub wipe-requires : goal.wipe-requires
wipe-requires g c = (c.first_closed.ensures.range, omega (arith, c.requires, c.in_default.ensures.disk.size))

-- the disk is blank
pub returns-in-Ok-clause-moments : goal.returns-in-Ok-clause-moments
returns-in-Ok-clause-moments g c = λ told.
    let read = c.in_default.ensures.read told in let laws = c.wiping_keeps_bodies_and_pages.ensures in let mid = g.D.Disk.history c.read_slots.new.disk in
    wiping-leaves laws.bodies laws.pages c.first_closed.result (g.D.Disk.history c.args.disk) mid (g.D.Disk.history c.in-Ok.slots.disk)
    (c.in_default.ensures.moments told) read.clean
    (fronts-closed c.read_slots.new.first c.read_slots.new.second c.first_closed.result mid.now c.read_slots.auto.first c.read_slots.auto.second read c.first_closed.ensures.closed)
    (c.in-Ok.ensures.moments told)

pub returns-in-Ok-clause-calls : goal.returns-in-Ok-clause-calls
returns-in-Ok-clause-calls g c = λ told.
    wiping-count (g.D.Disk.history c.args.disk) (g.D.Disk.history c.read_slots.new.disk) (g.D.Disk.history c.in-Ok.slots.disk)
    (c.in_default.ensures.moments told) (c.in_default.ensures.calls told) (c.in-Ok.ensures.calls told)

-- a call failed
pub returns-in-Err-wipe-clause-moments : goal.returns-in-Err-wipe-clause-moments
returns-in-Err-wipe-clause-moments g c = λ told.
    let read = c.in_default.ensures.read told in let laws = c.wiping_keeps_bodies_and_pages.ensures in let mid = g.D.Disk.history c.read_slots.new.disk in
    wiping-leaves laws.bodies laws.pages c.first_closed.result (g.D.Disk.history c.args.disk) mid (g.D.Disk.history c.in-Err-wipe.refusal.disk)
    (c.in_default.ensures.moments told) read.clean
    (fronts-closed c.read_slots.new.first c.read_slots.new.second c.first_closed.result mid.now c.read_slots.auto.first c.read_slots.auto.second read c.first_closed.ensures.closed)
    (c.in-Err-wipe.ensures.moments told)
