use Rattle.std.proofs.Common.{refl}
use Rattle.era_slots.specs.Slot.{other}
use Rattle.era_slots.proofs.Reading.{is-head, stands-opened, size-whole, body-page, other-page, beside-shape}
use Rattle.era_slots.proofs.opening.whole.Goals as goal

pub returns-clause-stands : goal.returns-clause-stands
returns-clause-stands g c = λ told.
    let now = (g.D.Disk.history c.args.disk).now in
    let read = c.requires.read told in
    let own = is-head c.args.active now.seen c.args.own.now c.head_of-sequence.result read.own_page c.head_of-sequence.ensures in
    let beside = is-head (other c.args.active) now.seen c.args.beside.now c.head_of-may_be_open.result read.other_page c.head_of-may_be_open.ensures in
    stands-opened c.args.active c.head_of-sequence.result.number c.head_of-may_be_open.result.is_open now c.requires.active.0
    (size-whole _ now c.requires.room (g.met.D.Disk.whole c.args.disk told)) read.clean read.stands
    own.numbered beside.opened

pub returns-clause-told : goal.returns-clause-told
returns-clause-told g c = λ told.
    let now = (g.D.Disk.history c.args.disk).now in
    let read = c.requires.read told in
    let own = is-head c.args.active now.seen c.args.own.now c.head_of-sequence.result read.own_page c.head_of-sequence.ensures in
    let beside = is-head (other c.args.active) now.seen c.args.beside.now c.head_of-may_be_open.result read.other_page c.head_of-may_be_open.ensures in (
      read.clean,
      record {
        stands = read.stands;
        may_be_open = beside.opened;
        body = body-page c.args.active now.seen c.args.own.now _ c.requires.size.0 read.own_page c.in-Ok.ensures.body;
        beside = other-page (other c.args.active) now.seen c.args.beside.now _ c.requires.size.1 read.other_page c.in-Ok.ensures.beside_open;
        numbered = own.numbered;
      },
    )

pub returns-clause-shape : goal.returns-clause-shape
returns-clause-shape g c =
    let shape = beside-shape c.args.active c.args.own.now c.args.beside.now _ _ c.head_of-sequence.result c.head_of-may_be_open.result c.requires.active.0
    c.requires.size.0 c.requires.size.1 c.head_of-sequence.ensures c.head_of-may_be_open.ensures c.requires.active.1 c.in-Ok.ensures in
    record {
      slot = c.requires.active.0;
      target = refl;
      number = refl;
      numbered = shape.0;
      size = shape.1;
      older_size = shape.2;
      older_open = shape.3;
    }
