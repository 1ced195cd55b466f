use Rattle.era_layout.specs.Root.{fields_of}
use Rattle.era_meta.specs.Damage.{held_in, held_tests}
use Rattle.era_meta.proofs.Walking.{walked-memory}
use Rattle.era_meta.proofs.parts.read_held.Goals as goal

pub returns-in-Err-clause-walked : goal.returns-in-Err-clause-walked
returns-in-Err-clause-walked g c =
    walked-memory g.D.Disk (held_tests (fields_of c.args.root.now) (held_in (g.D.Disk.history c.args.slots.now.disk).now.seen)) c.args.slots.now
