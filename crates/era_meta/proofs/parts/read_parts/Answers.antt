use Rattle.std.proofs.Common.{◌≡◌, Ok, Err, subst}
use Rattle.era_base.specs.CrashModel.{State}
use Rattle.era_base.proofs.Moments.{went-now}
use Rattle.era_layout.specs.Root.{fields_of}
use Rattle.era_meta.specs.Damage.{held_in, page_tests, held_tests, root_tests}
use Rattle.era_meta.specs.Meaning.{pages_in}
use Rattle.era_meta.specs.Parts.{SaysSnapshot}
use Rattle.era_meta.proofs.HeldReads.{parts-walked}
use Rattle.era_meta.proofs.Walking.{walked-value, walked-error, walked-stop, walked-forgets}
use Rattle.era_meta.proofs.parts.read_parts.Goals as goal

pub returns-in-Err-clause-walked : goal.returns-in-Err-clause-walked
returns-in-Err-clause-walked g c =
    let root = fields_of c.args.root in
    walked-stop g.D.Disk (page_tests root) (held_tests root (held_in (g.D.Disk.history c.args.slots.now.disk).now.seen)) c.args.slots.now c.read_marks.new.slots
    c.in-Err.finding c.in-Err.ensures.walked

pub returns-in-Err-read_held-clause-walked : goal.returns-in-Err-read_held-clause-walked
returns-in-Err-read_held-clause-walked g c =
    let root = fields_of c.args.root in
    walked-error g.D.Disk (root_tests root (held_in (g.D.Disk.history c.args.slots.now.disk).now.seen)) c.args.slots.now c.read_held.new.slots c.in-Err-read_held.finding
    (parts-walked g.D.Disk root c.args.slots.now c.read_marks.new.slots c.read_held.new.slots c.in-Ok.marks (Err c.in-Err-read_held.finding) c.in-Ok.ensures.walked
    c.in-Err-read_held.ensures.walked)

pub returns-in-Ok-next_room-clause-walked : goal.returns-in-Ok-next_room-clause-walked
returns-in-Ok-next_room-clause-walked g c =
    let root = fields_of c.args.root in
    walked-value g.D.Disk (root_tests root (held_in (g.D.Disk.history c.args.slots.now.disk).now.seen)) c.args.slots.now c.read_held.new.slots c.in-Ok-read_held.snapshot
    (record { root = c.args.root; next = c.in-Ok-next_room.next; marks = c.in-Ok.marks; snapshot = c.in-Ok-read_held.snapshot; spare = c.in-Ok-next_room.spare })
    (parts-walked g.D.Disk root c.args.slots.now c.read_marks.new.slots c.read_held.new.slots c.in-Ok.marks (Ok c.in-Ok-read_held.snapshot) c.in-Ok.ensures.walked
    c.in-Ok-read_held.ensures.walked)

pub returns-in-Ok-next_room-clause-says : goal.returns-in-Ok-next_room-clause-says
returns-in-Ok-next_room-clause-says g c = λ told.
    let root = fields_of c.args.root in
    let same = went-now (λ before now. now ≡ before) (g.D.Disk.history c.args.slots.now.disk) (g.D.Disk.history c.read_marks.new.slots.disk) (c.in-Ok.ensures.walked.told told).went in
    record {
      marks = c.in-Ok.ensures.says told;
      snapshot = subst (λ (state : State). SaysSnapshot (pages_in state.seen) root c.in-Ok-read_held.snapshot) same (c.in-Ok-read_held.ensures.says told);
    }

pub returns-in-Err-next_room-clause-walked : goal.returns-in-Err-next_room-clause-walked
returns-in-Err-next_room-clause-walked g c =
    let root = fields_of c.args.root in
    walked-forgets g.D.Disk (root_tests root (held_in (g.D.Disk.history c.args.slots.now.disk).now.seen)) c.args.slots.now c.read_held.new.slots c.in-Ok-read_held.snapshot
    (parts-walked g.D.Disk root c.args.slots.now c.read_marks.new.slots c.read_held.new.slots c.in-Ok.marks (Ok c.in-Ok-read_held.snapshot) c.in-Ok.ensures.walked
    c.in-Ok-read_held.ensures.walked)
