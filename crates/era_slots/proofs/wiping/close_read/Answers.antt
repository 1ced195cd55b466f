use Rattle.std.proofs.Common.{◌+◌, arith, refl}
use Rattle.era_base.proofs.Moments.{went-now}
use Rattle.era_slots.specs.Wiping.{flag_count}
use Rattle.era_slots.proofs.Gates.{went-wiped, is-second}
use Rattle.era_slots.proofs.Counts.{wiped-calls, wiped-some}
use Rattle.era_slots.proofs.Written.{on_ok, on_either}
use Rattle.era_slots.proofs.Wiped.{flags-read, wiped-synced}
use Rattle.era_slots.proofs.wiping.close_read.Goals as goal

-- slot 0 first
pub close_both-requires-clause-flags : goal.close_both-requires-clause-flags
close_both-requires-clause-flags g c = λ told.
    (flags-read _ _ _ _ (g.D.Disk.history c.read_slots.new.disk).now c.read_slots.auto.first c.read_slots.auto.second (c.in_ok-read_slots.ensures.read told)
    c.gate_is_open-zero_is_open.ensures c.gate_is_open-one_is_open.ensures).0

pub returns-then-first-eq0-clause-moments : goal.returns-then-first-eq0-clause-moments
returns-then-first-eq0-clause-moments g c = λ told.
    went-wiped 0 c.args.first (g.D.Disk.history c.args.disk.now) (g.D.Disk.history c.read_slots.new.disk) (g.D.Disk.history c.close_both.new.disk)
    c.if-first-eq0.true (c.read_slots.ensures.moments told) (c.in_ok-read_slots.ensures.read told).clean (c.close_both.ensures.moments told)

pub returns-then-first-eq0-clause-wiped : goal.returns-then-first-eq0-clause-wiped
returns-then-first-eq0-clause-wiped g c =
    on_ok c.close_both.result
    (λ wiped told. wiped-synced (g.D.Disk.history c.args.disk.now).now (g.D.Disk.history c.read_slots.new.disk).now (g.D.Disk.history c.close_both.new.disk).now
    (went-now _ _ _ (c.read_slots.ensures.moments told)) (wiped told))
    c.close_both.ensures.wiped

pub returns-then-first-eq0-clause-calls : goal.returns-then-first-eq0-clause-calls
returns-then-first-eq0-clause-calls g c =
    on_either c.close_both.result
    (λ calls told.
    let flags = (flags-read _ _ _ _ (g.D.Disk.history c.read_slots.new.disk).now c.read_slots.auto.first c.read_slots.auto.second (c.in_ok-read_slots.ensures.read told)
    c.gate_is_open-zero_is_open.ensures c.gate_is_open-one_is_open.ensures).0 in
    wiped-calls c.gate_is_open-zero_is_open.result c.gate_is_open-one_is_open.result _
    (g.D.Disk.history c.args.disk.now) (g.D.Disk.history c.read_slots.new.disk) (g.D.Disk.history c.close_both.new.disk)
    (c.read_slots.ensures.moments told) (c.in_ok-read_slots.ensures.calls told) flags.gate flags.beside refl (calls told))
    (λ calls told.
    let flags = (flags-read _ _ _ _ (g.D.Disk.history c.read_slots.new.disk).now c.read_slots.auto.first c.read_slots.auto.second (c.in_ok-read_slots.ensures.read told)
    c.gate_is_open-zero_is_open.ensures c.gate_is_open-one_is_open.ensures).0 in
    wiped-some c.gate_is_open-zero_is_open.result c.gate_is_open-one_is_open.result _
    (g.D.Disk.history c.args.disk.now) (g.D.Disk.history c.read_slots.new.disk) (g.D.Disk.history c.close_both.new.disk)
    (c.read_slots.ensures.moments told) (c.in_ok-read_slots.ensures.calls told) flags.gate flags.beside refl (calls told))
    c.close_both.ensures.calls

-- slot 1 first
pub close_both-requires-else-first-eq0-clause-flags : goal.close_both-requires-else-first-eq0-clause-flags
close_both-requires-else-first-eq0-clause-flags g c = λ told.
    (flags-read _ _ _ _ (g.D.Disk.history c.read_slots.new.disk).now c.read_slots.auto.first c.read_slots.auto.second (c.in_ok-read_slots.ensures.read told)
    c.gate_is_open-zero_is_open.ensures c.gate_is_open-one_is_open.ensures).1

pub returns-else-first-eq0-clause-moments : goal.returns-else-first-eq0-clause-moments
returns-else-first-eq0-clause-moments g c = λ told.
    went-wiped 1 c.args.first (g.D.Disk.history c.args.disk.now) (g.D.Disk.history c.read_slots.new.disk) (g.D.Disk.history c.close_both-else-first-eq0.new.disk)
    (is-second c.args.first c.if-first-eq0.false c.requires.slot) (c.read_slots.ensures.moments told) (c.in_ok-read_slots.ensures.read told).clean
    (c.close_both-else-first-eq0.ensures.moments told)

pub returns-else-first-eq0-clause-wiped : goal.returns-else-first-eq0-clause-wiped
returns-else-first-eq0-clause-wiped g c =
    on_ok c.close_both-else-first-eq0.result
    (λ wiped told. wiped-synced (g.D.Disk.history c.args.disk.now).now (g.D.Disk.history c.read_slots.new.disk).now
    (g.D.Disk.history c.close_both-else-first-eq0.new.disk).now (went-now _ _ _ (c.read_slots.ensures.moments told)) (wiped told))
    c.close_both-else-first-eq0.ensures.wiped

pub returns-else-first-eq0-clause-calls : goal.returns-else-first-eq0-clause-calls
returns-else-first-eq0-clause-calls g c =
    on_either c.close_both-else-first-eq0.result
    (λ calls told.
    let flags = (flags-read _ _ _ _ (g.D.Disk.history c.read_slots.new.disk).now c.read_slots.auto.first c.read_slots.auto.second (c.in_ok-read_slots.ensures.read told)
    c.gate_is_open-zero_is_open.ensures c.gate_is_open-one_is_open.ensures).1 in
    wiped-calls c.gate_is_open-zero_is_open.result c.gate_is_open-one_is_open.result
    (flag_count c.gate_is_open-one_is_open.result + flag_count c.gate_is_open-zero_is_open.result)
    (g.D.Disk.history c.args.disk.now) (g.D.Disk.history c.read_slots.new.disk) (g.D.Disk.history c.close_both-else-first-eq0.new.disk)
    (c.read_slots.ensures.moments told) (c.in_ok-read_slots.ensures.calls told) flags.beside flags.gate (omega arith) (calls told))
    (λ calls told.
    let flags = (flags-read _ _ _ _ (g.D.Disk.history c.read_slots.new.disk).now c.read_slots.auto.first c.read_slots.auto.second (c.in_ok-read_slots.ensures.read told)
    c.gate_is_open-zero_is_open.ensures c.gate_is_open-one_is_open.ensures).1 in
    wiped-some c.gate_is_open-zero_is_open.result c.gate_is_open-one_is_open.result
    (flag_count c.gate_is_open-one_is_open.result + flag_count c.gate_is_open-zero_is_open.result)
    (g.D.Disk.history c.args.disk.now) (g.D.Disk.history c.read_slots.new.disk) (g.D.Disk.history c.close_both-else-first-eq0.new.disk)
    (c.read_slots.ensures.moments told) (c.in_ok-read_slots.ensures.calls told) flags.beside flags.gate (omega arith) (calls told))
    c.close_both-else-first-eq0.ensures.calls
