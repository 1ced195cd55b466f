use Rattle.std.proofs.Common.{refl, inr}
use Rattle.era_tools.specs.declared.refusal.Refusal.TheVariants.{DataFault, NoRoom}
use Rattle.era_tools.proofs.Copies.{only-then, synced-copies, synced-only}
use Rattle.era_tools.proofs.backing_up.copy_disk.Goals as goal

-- memory was refused
pub returns-in_default-clause-told : goal.returns-in_default-clause-told
returns-in_default-clause-told g c = inr (record { refusal = NoRoom; cause = refl; printed = c.refuse.ensures.printed })

-- the sync failed
pub returns-in_default-sync-clause-told : goal.returns-in_default-sync-clause-told
returns-in_default-sync-clause-told g c = inr (record {
  refusal = DataFault c.faults-count.result;
  cause = (c.faults-count.ensures, c.in_default-sync.ensures.cause.failed);
  printed = c.refuse-in_default-sync.ensures.printed;
})

pub returns-in_default-sync-clause-only : goal.returns-in_default-sync-clause-only
returns-in_default-sync-clause-only g c =
    synced-only g.row.D.Denot g.D.Disk c.args.disk.now c.sync.new.self c.sync.result g.met.D.Disk.whole c.sync.ensures.told
    (record { place = c.sync.ensures.place; size = c.sync.ensures.size })

-- the text was given
pub returns-clause-told : goal.returns-clause-told
returns-clause-told g c =
    synced-copies g.row.D.Denot g.D.Disk c.args.listing.now c.args.since c.args.disk.now c.sync.new.self c.print_copies.new.disk
    (g.K.Sink.given c.args.sink.now) (g.K.Sink.given c.print_copies.new.sink) c.print_copies.result c.in-Ok-sync.field-0
    c.in-Ok-sync.ensures.told c.in-Ok-sync.ensures.cause.kept c.print_copies.ensures.only c.print_copies.ensures.printed

pub returns-clause-only : goal.returns-clause-only
returns-clause-only g c =
    only-then g.row.D.Denot g.D.Disk c.args.disk.now c.sync.new.self c.print_copies.new.disk
    (synced-only g.row.D.Denot g.D.Disk c.args.disk.now c.sync.new.self c.sync.result g.met.D.Disk.whole c.sync.ensures.told
    (record { place = c.sync.ensures.place; size = c.sync.ensures.size }))
    c.print_copies.ensures.only
