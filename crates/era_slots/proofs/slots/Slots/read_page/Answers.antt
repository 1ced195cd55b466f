use Rattle.std.proofs.Common.{◌*◌, arith, sym, ap, ◌∙◌}
use Rattle.era_base.specs.CrashModel.{State}
use Rattle.era_slots.specs.Slot.{page_of}
use Rattle.era_slots.proofs.Pages.{page-read}
use Rattle.era_slots.proofs.slots.Slots.read_page.Goals as goal

pub returns-clause-read : goal.returns-clause-read
returns-clause-read g c = λ told.
    let read = c.in-Ok.ensures.told told in
    page-read c.args.block (c.from.result * 8) c.read.new.into c.read.new.into (g.D.Disk.history c.args.self.now.disk).now
    (omega (arith, c.from.ensures)) (c.read.auto.into ∙ c.requires.page.1) read.bytes
    ∙ ap (λ (state : State). page_of c.args.block state.seen) (sym read.same)
