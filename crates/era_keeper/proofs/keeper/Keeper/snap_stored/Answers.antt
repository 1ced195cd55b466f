use Rattle.std.proofs.Common.{true, refl, sym, subst}
use Rattle.era_base.specs.Faults.{Rose}
use Rattle.era_meta.specs.SnapshotCalls.{CommitsSnapshot, FailsToCommitSnapshot, KeepsMarks}
use Rattle.era_meta.specs.declared.metadata.Meta.{Meta}
use Rattle.era_model.specs.declared.event.Event.TheVariants.{Snap, Refused}
use Rattle.era_model.specs.declared.event.Kind.TheVariants.{TakeSnap as TakeSnapKind}
use Rattle.era_model.specs.declared.event.Why.TheVariants.{MetaFault}
use Rattle.era_notes.specs.Notes.{last_faults}
use Rattle.era_keeper.specs.Keepers.{view_of}
use Rattle.era_keeper.proofs.Counts.{last_faults-le, rose-since}
use Rattle.era_keeper.proofs.Quiet.{stands-drawn}
use Rattle.era_keeper.proofs.Snaps.{entries-held, owes-snap, owes-unsnapped}
use Rattle.era_keeper.proofs.Stores.{over}
use Rattle.era_keeper.proofs.Went.{drew-over}
use Rattle.era_keeper.proofs.keeper.Keeper.snap_stored.Goals as goal

-- it is stored
pub returns-in-Ok-clause-stands : goal.returns-in-Ok-clause-stands
returns-in-Ok-clause-stands g c = λ opening stands.
    let old = c.args.self.now in
    let meta = c.take_snap.new.self in
    stands-drawn g.D.Disk opening (over old meta) c.note.new.self (Snap c.args.id 2) c.note.result c.note.ensures.same c.note.ensures.view c.note.ensures.drew.ascend
    (entries-held g.D.Disk opening old meta true c.requires.may.fits.standing c.requires.stored (λ is. c.requires.none) c.take_snap.ensures.moments c.take_snap.ensures.same.device
    c.take_snap.ensures.cause.cause.later stands)
    (owes-snap g.D.Disk opening old meta c.args.id 2 c.requires.may.fits.standing c.requires.stored refl c.requires.none c.in-Ok.ensures.ok c.take_snap.ensures.same c.crashes_now.ensures stands)

pub returns-in-Ok-clause-went : goal.returns-in-Ok-clause-went
returns-in-Ok-clause-went g c =
    let old = c.args.self.now in
    let meta = c.take_snap.new.self in (
      refl,
      subst (λ (m : Meta g.row.D.Denot). CommitsSnapshot g.D.Disk old.meta true m) (sym c.note.ensures.same.meta) c.in-Ok.ensures.ok,
      subst (λ (m : Meta g.row.D.Denot). KeepsMarks g.D.Disk old.meta m) (sym c.note.ensures.same.meta) c.take_snap.ensures.same,
      drew-over old c.note.new.self meta c.args.pass.now c.note.new.pass (Snap c.args.id 2) c.note.result c.note.ensures.drew,
    )

-- it isn't
pub returns-in-Err-clause-stands : goal.returns-in-Err-clause-stands
returns-in-Err-clause-stands g c = λ opening stands.
    let old = c.args.self.now in
    let meta = c.take_snap.new.self in
    let cause = c.in-Err.ensures.cause in
    let view = view_of g.D.Disk old in
    let rose = rose-since (last_faults view.least view.notes) view.faults c.in-Err.count (last_faults-le view.least view.faults view.notes stands.own.counts)
    (subst (Rose view.faults) (sym cause.count) cause.cause.failed) in
    stands-drawn g.D.Disk opening (over old meta) c.note-in-Err.new.self (Refused c.args.id TakeSnapKind (MetaFault c.in-Err.count)) c.note-in-Err.result c.note-in-Err.ensures.same c.note-in-Err.ensures.view
    c.note-in-Err.ensures.drew.ascend
    (entries-held g.D.Disk opening old meta true c.requires.may.fits.standing c.requires.stored (λ is. c.requires.none) c.take_snap.ensures.moments c.take_snap.ensures.same.device
    c.take_snap.ensures.cause.cause.later stands)
    (owes-unsnapped g.D.Disk opening old meta c.args.id TakeSnapKind c.in-Err.count true c.requires.may.fits.standing c.requires.stored (λ is. c.requires.none) refl tt c.in-Err.ensures.err
    c.take_snap.ensures.same cause.count rose c.crashes_now-in-Err.ensures stands)

pub returns-in-Err-clause-went : goal.returns-in-Err-clause-went
returns-in-Err-clause-went g c =
    let old = c.args.self.now in
    let meta = c.take_snap.new.self in (
      subst (λ (m : Meta g.row.D.Denot). FailsToCommitSnapshot g.D.Disk old.meta true m) (sym c.note-in-Err.ensures.same.meta) c.in-Err.ensures.err,
      subst (λ (m : Meta g.row.D.Denot). KeepsMarks g.D.Disk old.meta m) (sym c.note-in-Err.ensures.same.meta) c.take_snap.ensures.same,
      drew-over old c.note-in-Err.new.self meta c.args.pass.now c.note-in-Err.new.pass (Refused c.args.id TakeSnapKind (MetaFault c.in-Err.count)) c.note-in-Err.result c.note-in-Err.ensures.drew,
    )
