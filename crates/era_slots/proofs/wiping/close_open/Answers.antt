use Rattle.era_slots.proofs.Written.{on_ok}
use Rattle.era_slots.proofs.Wiped.{shuts-written}
use Rattle.era_slots.proofs.wiping.close_open.Goals as goal

pub returns-then-is_open-clause-closed : goal.returns-then-is_open-clause-closed
returns-then-is_open-clause-closed g c =
    rw c.if-is_open.true
    (on_ok c.close_gate.result
    (λ put told. shuts-written c.args.slot (g.D.Disk.history c.args.disk.now).now (g.D.Disk.history c.close_gate.new.disk).now (put told))
    c.close_gate.ensures.written)
