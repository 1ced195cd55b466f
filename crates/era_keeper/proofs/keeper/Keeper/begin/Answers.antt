use Rattle.std.proofs.Common.{sym, subst}
use Rattle.era_base.specs.Faults.{Rose}
use Rattle.era_notes.specs.Notes.{last_faults, least_of, notes_of}
use Rattle.era_meta.specs.declared.metadata.Meta.{Meta}
use Rattle.era_keeper.specs.Keepers.{view_of}
use Rattle.era_keeper.specs.Storing.{FailsToStoreEra}
use Rattle.era_keeper.proofs.Counts.{last_faults-le, rose-since}
use Rattle.era_keeper.proofs.Drawn.{drew-from, same-rest, same-then}
use Rattle.era_keeper.proofs.keeper.Keeper.begin.Goals as goal

pub returns-in-Err-clause-did : goal.returns-in-Err-clause-did
returns-in-Err-clause-did g c =
    let old = c.args.self.now in (
      c.refuse_fault.ensures.fits,
      record {
        failed = subst (λ (m : Meta g.row.D.Denot). FailsToStoreEra g.D.Disk old.meta.unstored old.meta m) (sym c.refuse_fault.ensures.same.meta) c.in-Err.ensures.err.0;
        drew = drew-from old c.store_era.new.self c.refuse_fault.new.self c.args.pass.now c.refuse_fault.new.pass _ c.store_era.ensures.memory.entries c.refuse_fault.ensures.drew;
      },
    )

pub returns-in-Err-clause-stands : goal.returns-in-Err-clause-stands
returns-in-Err-clause-stands g c = λ opening stands.
    let old = c.args.self.now in
    let view = view_of g.D.Disk old in
    let cause = c.in-Err.ensures.cause in
    let rose = rose-since (last_faults view.least view.notes) view.faults c.in-Err.count (last_faults-le view.least view.faults view.notes stands.own.counts)
    (subst (Rose view.faults) (sym cause.count) cause.cause.failed) in
    c.refuse_fault.ensures.stands opening
    (record {
      present = cause.count;
      rose = subst (λ notes. Rose (last_faults (least_of g.D.Disk notes) (notes_of g.D.Disk notes)) c.in-Err.count) (sym c.store_era.ensures.memory.notes) rose;
    })
    (c.store_era.ensures.stands opening stands)

pub returns-in-Err-clause-same : goal.returns-in-Err-clause-same
returns-in-Err-clause-same g c = same-then g.D.Disk c.args.self.now c.store_era.new.self c.refuse_fault.new.self c.store_era.ensures.same (same-rest g.D.Disk c.store_era.new.self c.refuse_fault.new.self c.refuse_fault.ensures.same)
