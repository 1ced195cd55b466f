use Rattle.std.proofs.Common.{◌+◌, ◌*◌, arith}
use Rattle.era_slots.proofs.Written.{on_ok, body-put}
use Rattle.era_slots.proofs.steps.write_body.Goals as goal

pub returns-clause-written : goal.returns-clause-written
returns-clause-written g c =
    on_ok c.write_synced.result
    (λ put told. body-put c.args.slot (c.from.result * 8 + 1) c.args.number c.args.body.now c.body_sectors.result _
    (omega (arith, c.from.ensures)) c.ranges.number.fits c.requires.body c.body_sectors.ensures.size c.body_sectors.ensures.number c.body_sectors.ensures.body
    (put told))
    c.write_synced.ensures.written
