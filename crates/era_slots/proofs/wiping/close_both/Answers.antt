use Rattle.era_base.proofs.Moments.{went-now}
use Rattle.era_slots.proofs.Reading.{size-whole}
use Rattle.era_slots.proofs.Gates.{went-first, went-second}
use Rattle.era_slots.proofs.Written.{on_ok}
use Rattle.era_slots.proofs.Wiped.{wiped-both}
use Rattle.era_slots.proofs.wiping.close_both.Goals as goal

-- both were tried
pub returns-clause-moments : goal.returns-clause-moments
returns-clause-moments g c = λ told.
    let flags = c.requires.flags told in
    went-second c.args.first c.args.first_is_open c.args.other_is_open (g.D.Disk.history c.args.disk.now) (g.D.Disk.history c.close_open.new.disk)
    (g.D.Disk.history c.close_open-2.new.disk) c.requires.slot
    (size-whole _ (g.D.Disk.history c.args.disk.now).now c.requires.room (g.met.D.Disk.whole c.args.disk.now told)) flags.clean
    (c.in_ok-close_open.ensures.closed told) flags.gate flags.beside (c.close_open.ensures.moments told) (c.close_open-2.ensures.moments told)

-- both are closed
pub returns-clause-wiped : goal.returns-clause-wiped
returns-clause-wiped g c =
    on_ok c.close_open-2.result
    (λ shut told. wiped-both c.args.first c.args.first_is_open c.args.other_is_open (g.D.Disk.history c.args.disk.now).now
    (g.D.Disk.history c.close_open.new.disk).now (g.D.Disk.history c.close_open-2.new.disk).now c.requires.slot (c.requires.flags told)
    (went-now _ _ _ (c.close_open.ensures.moments told)) (went-now _ _ _ (c.close_open-2.ensures.moments told))
    (c.in_ok-close_open.ensures.closed told) (shut told))
    c.close_open-2.ensures.closed

-- the first closing failed
pub returns-in_err-close_open-clause-moments : goal.returns-in_err-close_open-clause-moments
returns-in_err-close_open-clause-moments g c = λ told.
    let flags = c.requires.flags told in
    went-first c.args.first c.args.first_is_open (g.D.Disk.history c.args.disk.now) (g.D.Disk.history c.close_open.new.disk) c.requires.slot
    (size-whole _ (g.D.Disk.history c.args.disk.now).now c.requires.room (g.met.D.Disk.whole c.args.disk.now told)) flags.clean
    flags.gate (c.close_open.ensures.moments told)
