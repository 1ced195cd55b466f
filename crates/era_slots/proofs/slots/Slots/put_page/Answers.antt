use Rattle.std.proofs.Common.{◌*◌, length, arith}
use Rattle.era_slots.proofs.Pages.{went-put, stands-put, page-put}
use Rattle.era_slots.proofs.slots.Slots.put_page.Goals as goal

-- the write failed
pub returns-in_default-clause-moments : goal.returns-in_default-clause-moments
returns-in_default-clause-moments g c = λ told.
    let write = c.in_default.ensures.told told in
    went-put c.args.self.now.target c.args.self.now.number c.args.block (c.from.result * 8) (length c.args.bytes.now) c.args.self.now.may_be_open
    (g.D.Disk.history c.args.self.now.disk) (g.D.Disk.history c.write.new.self)
    c.requires.page.begun (omega (arith, c.from.ensures)) c.requires.page.size c.requires.page.behind (c.requires.stands told) write.time write.outcome

pub returns-in_default-clause-stands : goal.returns-in_default-clause-stands
returns-in_default-clause-stands g c = λ told.
    let write = c.in_default.ensures.told told in
    stands-put c.args.self.now.target c.args.self.now.number c.args.block (c.from.result * 8) (length c.args.bytes.now) c.args.self.now.may_be_open
    _ (g.D.Disk.history c.write.new.self).now
    c.requires.page.begun (omega (arith, c.from.ensures)) c.requires.page.size c.requires.page.behind (c.requires.stands told) write.outcome

-- the page is put
pub returns-clause-moments : goal.returns-clause-moments
returns-clause-moments g c = λ told.
    let write = c.in-Ok.ensures.told told in
    went-put c.args.self.now.target c.args.self.now.number c.args.block (c.from.result * 8) (length c.args.bytes.now) c.args.self.now.may_be_open
    (g.D.Disk.history c.args.self.now.disk) (g.D.Disk.history c.write.new.self)
    c.requires.page.begun (omega (arith, c.from.ensures)) c.requires.page.size c.requires.page.behind (c.requires.stands told) write.time write.outcome.same

pub returns-clause-stands : goal.returns-clause-stands
returns-clause-stands g c = λ told.
    let write = c.in-Ok.ensures.told told in
    stands-put c.args.self.now.target c.args.self.now.number c.args.block (c.from.result * 8) (length c.args.bytes.now) c.args.self.now.may_be_open
    _ (g.D.Disk.history c.write.new.self).now
    c.requires.page.begun (omega (arith, c.from.ensures)) c.requires.page.size c.requires.page.behind (c.requires.stands told) write.outcome.same

pub returns-clause-put : goal.returns-clause-put
returns-clause-put g c = λ told.
    page-put c.args.block (c.from.result * 8) (g.D.Disk.sectors c.args.self.now.disk) c.args.bytes.now (g.D.Disk.history c.args.self.now.disk).now (g.D.Disk.history c.write.new.self).now
    (omega (arith, c.from.ensures)) c.requires.page.size c.requires.page.within (g.met.D.Disk.whole c.args.self.now.disk told) (c.in-Ok.ensures.told told).outcome.seen
