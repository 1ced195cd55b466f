use Rattle.std.proofs.Common.{◌*◌, arith}
use Rattle.era_slots.proofs.Written.{on_ok, gate-put}
use Rattle.era_slots.proofs.steps.open_gate.Goals as goal

pub returns-clause-written : goal.returns-clause-written
returns-clause-written g c =
    on_ok c.write_synced.result
    (λ put told. gate-put c.args.slot (c.from.result * 8) _ c.open_sector.result _
    (omega (arith, c.from.ensures)) c.open_sector.ensures.size c.open_sector.ensures.is (put told))
    c.write_synced.ensures.written
