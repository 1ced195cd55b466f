use Rattle.era_meta.proofs.Looked.{looked-of}
use Rattle.era_meta.proofs.looking.look_whole.Goals as goal

pub returns-in-Ok-clause-looked : goal.returns-in-Ok-clause-looked
returns-in-Ok-clause-looked g c =
    let old = c.args.slots in
    let new = c.try_parts.new.slots in
    let parts = c.in-Ok.parts in
    rw c.joined.ensures
    (looked-of g.D.Disk old new c.args.active c.args.body.now c.args.beside.now parts c.requires.shape c.in-Ok.ensures.same.0 c.in-Ok.ensures.tried.same c.in-Ok.ensures.parts
    (λ told. record {
      stands = c.requires.stands told;
      clean = (c.requires.opened told).0;
      opens = (c.requires.opened told).1;
      same = c.in-Ok.ensures.same.1 told;
      size = (g.met.D.Disk.whole old.disk told).bytes;
      read = c.in-Ok.ensures.read told;
    }))
