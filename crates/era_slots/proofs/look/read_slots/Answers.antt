use Rattle.era_slots.proofs.Reading.{went-read, went-again}
use Rattle.era_slots.proofs.Counts.{sync-failed, first-failed, second-failed}
use Rattle.era_slots.proofs.look.read_slots.Goals as goal

-- the first read failed
pub returns-in_default-read-clause-moments : goal.returns-in_default-read-clause-moments
returns-in_default-read-clause-moments g c = λ told.
    let sync = c.in-Ok.ensures.told told in
    let read = c.read.ensures.told told in
    went-read _ (g.D.Disk.history c.args.disk.now) (g.D.Disk.history c.sync.new.self) (g.D.Disk.history c.read.new.self)
    (g.met.D.Disk.whole c.args.disk.now told) sync.time sync.outcome read.time read.same

-- the second read failed
pub returns-in_default-read-2-clause-moments : goal.returns-in_default-read-2-clause-moments
returns-in_default-read-2-clause-moments g c = λ told.
    let sync = c.in-Ok.ensures.told told in
    let read = c.read.ensures.told told in
    let again = c.read-2.ensures.told told in
    went-again (g.D.Disk.history c.args.disk.now) (g.D.Disk.history c.read.new.self) (g.D.Disk.history c.read-2.new.self)
    (went-read _ (g.D.Disk.history c.args.disk.now) (g.D.Disk.history c.sync.new.self) (g.D.Disk.history c.read.new.self)
    (g.met.D.Disk.whole c.args.disk.now told) sync.time sync.outcome read.time read.same) again.time again.same

-- all answered Ok
pub returns-clause-moments : goal.returns-clause-moments
returns-clause-moments g c = λ told.
    let sync = c.in-Ok.ensures.told told in
    let read = c.read.ensures.told told in
    let again = c.read-2.ensures.told told in
    went-again (g.D.Disk.history c.args.disk.now) (g.D.Disk.history c.read.new.self) (g.D.Disk.history c.read-2.new.self)
    (went-read _ (g.D.Disk.history c.args.disk.now) (g.D.Disk.history c.sync.new.self) (g.D.Disk.history c.read.new.self)
    (g.met.D.Disk.whole c.args.disk.now told) sync.time sync.outcome read.time read.same) again.time again.same

-- the place of the call that failed
pub returns-in_default-clause-calls : goal.returns-in_default-clause-calls
returns-in_default-clause-calls g c = λ told.
    sync-failed g.D.Disk c.args.disk.now c.sync.new.self (c.sync.ensures.told told).time c.in_default.ensures.cause.failed

pub returns-in_default-read-clause-calls : goal.returns-in_default-read-clause-calls
returns-in_default-read-clause-calls g c = λ told.
    let sync = c.in-Ok.ensures.told told in
    let read = c.in_default-read.ensures.told told in
    first-failed g.D.Disk c.args.disk.now c.sync.new.self c.read.new.self sync.time c.in-Ok.ensures.cause.kept sync.outcome.clean read.time read.same
    c.in_default-read.ensures.cause.failed

pub returns-in_default-read-2-clause-calls : goal.returns-in_default-read-2-clause-calls
returns-in_default-read-2-clause-calls g c = λ told.
    let sync = c.in-Ok.ensures.told told in
    let read = c.in-Ok-read.ensures.told told in
    let again = c.in_default-read-2.ensures.told told in
    second-failed g.D.Disk c.args.disk.now c.sync.new.self c.read.new.self c.read-2.new.self sync.time c.in-Ok.ensures.cause.kept sync.outcome.clean
    read.time read.same c.in-Ok-read.ensures.cause.kept again.time again.same c.in_default-read-2.ensures.cause.failed
