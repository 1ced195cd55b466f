use Rattle.std.proofs.Common.{inr}
use Rattle.era_stripe.proofs.ReadCalls.{went-sync_read}
use Rattle.era_stripe.proofs.settles.read_back.Goals as goal

pub returns-in_default-read-clause-told : goal.returns-in_default-read-clause-told
returns-in_default-read-clause-told g c = λ told.
    let synced = c.in-Ok.ensures.told told in
    let read = c.in_default-read.ensures.told told in
    inr (record {
      between = g.D.Disk.history c.sync.new.self;
      time = synced.time;
      synced = synced.outcome;
      read = record { time = read.time; same = read.same; bytes = tt };
    })

pub returns-in_default-read-clause-moments : goal.returns-in_default-read-clause-moments
returns-in_default-read-clause-moments g c = λ told.
    let synced = c.in-Ok.ensures.told told in
    let read = c.in_default-read.ensures.told told in
    went-sync_read _ (g.D.Disk.history c.args.disk.now) (g.D.Disk.history c.sync.new.self) (g.D.Disk.history c.read.new.self) (g.met.D.Disk.whole c.args.disk.now told) synced.time synced.outcome read.time read.same

pub returns-clause-moments : goal.returns-clause-moments
returns-clause-moments g c = λ told.
    let synced = c.in-Ok.ensures.told told in
    let read = c.in-Ok-read.ensures.told told in
    went-sync_read _ (g.D.Disk.history c.args.disk.now) (g.D.Disk.history c.sync.new.self) (g.D.Disk.history c.read.new.self) (g.met.D.Disk.whole c.args.disk.now told) synced.time synced.outcome read.time read.same

pub returns-clause-told : goal.returns-clause-told
returns-clause-told g c = λ told.
    let synced = c.in-Ok.ensures.told told in
    let read = c.in-Ok-read.ensures.told told in
    record {
      between = g.D.Disk.history c.sync.new.self;
      time = synced.time;
      synced = synced.outcome;
      read = record { time = read.time; same = read.same; bytes = read.bytes };
    }
