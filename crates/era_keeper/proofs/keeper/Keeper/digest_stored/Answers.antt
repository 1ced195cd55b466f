use Rattle.std.proofs.Common.{◌≡◌, ◌∙◌, ℕ, Option, refl, sym, ap, subst}
use Rattle.era_base.specs.Faults.{Rose}
use Rattle.era_meta.specs.Digested.{HasDigested, HasMarks, StillHasMarks}
use Rattle.era_meta.specs.Digesting.{IsDigest, after_digest}
use Rattle.era_meta.specs.MetaCalls.{KeepsSnapshot}
use Rattle.era_meta.specs.declared.metadata.Meta.{Meta}
use Rattle.era_model.specs.declared.event.Event.TheVariants.{Digest, Refused}
use Rattle.era_model.specs.declared.event.Kind.TheVariants.{Digest as DigestKind}
use Rattle.era_model.specs.declared.event.Why.TheVariants.{MetaFault}
use Rattle.era_model.specs.Digest.{digest_of, digested}
use Rattle.era_model.specs.Marks.{BlockMarks}
use Rattle.era_notes.specs.Notes.{last_faults}
use Rattle.era_keeper.specs.Keepers.{KeeperStands, view_of}
use Rattle.era_keeper.proofs.Counts.{last_faults-le, rose-since}
use Rattle.era_keeper.proofs.DigestSteps.{comes-digested, none-archived, once-digested, owes-digest, owes-undigested}
use Rattle.era_keeper.proofs.Drawn.{same-rest, same-then}
use Rattle.era_keeper.proofs.Fits.{fits-drawn}
use Rattle.era_keeper.proofs.Origins.{origin-digested, same-over}
use Rattle.era_keeper.proofs.Quiet.{stands-drawn}
use Rattle.era_keeper.proofs.Stores.{entries-stored, over}
use Rattle.era_keeper.proofs.Went.{drew-over}
use Rattle.era_keeper.proofs.keeper.Keeper.digest_stored.Goals as goal

-- there is nothing to do
pub returns-in-Ok-None-clause-stands : goal.returns-in-Ok-None-clause-stands
returns-in-Ok-None-clause-stands g c = λ opening stands.
    let old = c.args.self.now in
    let none = none-archived old.meta.marks.archive old.meta.marks.array
    (subst (λ (s : Option (ℕ × Option ℕ)). s ≡ digest_of old.meta.marks.archive old.meta.marks.array) c.in-Ok-None.field-0-is c.in-Ok-None.ensures.step) in
    c.tell.ensures.stands opening (ap (λ (m : BlockMarks). m.archive) (sym stands.marks) ∙ none) tt
    (subst (λ (m : Meta g.row.D.Denot). KeeperStands g.D.Disk opening (over old m)) (sym (subst (HasDigested g.D.Disk old.meta c.digest_step.new.self) c.in-Ok-None.field-0-is c.in-Ok-None.ensures.ok)) stands)

pub returns-in-Ok-None-clause-went : goal.returns-in-Ok-None-clause-went
returns-in-Ok-None-clause-went g c =
    let old = c.args.self.now in (
      none-archived old.meta.marks.archive old.meta.marks.array
          (subst (λ (s : Option (ℕ × Option ℕ)). s ≡ digest_of old.meta.marks.archive old.meta.marks.array) c.in-Ok-None.field-0-is c.in-Ok-None.ensures.step),
      c.tell.ensures.same.meta ∙ subst (HasDigested g.D.Disk old.meta c.digest_step.new.self) c.in-Ok-None.field-0-is c.in-Ok-None.ensures.ok,
      drew-over old c.tell.new.self c.digest_step.new.self c.args.pass.now c.tell.new.pass _ c.tell.ensures.drew.0 c.tell.ensures.drew.1,
    )

pub returns-in-Ok-None-clause-same : goal.returns-in-Ok-None-clause-same
returns-in-Ok-None-clause-same g c =
    let old = c.args.self.now in
    let meta = c.digest_step.new.self in
    let is = subst (HasDigested g.D.Disk old.meta meta) c.in-Ok-None.field-0-is c.in-Ok-None.ensures.ok in
    same-then g.D.Disk old (over old meta) c.tell.new.self
    (same-over g.D.Disk old meta old.meta.marks c.digest_step.ensures.same.device (ap (λ (m : Meta g.row.D.Denot). m.marks) is) (record { sectors = refl; block_sectors = refl }))
    (same-rest g.D.Disk (over old meta) c.tell.new.self c.tell.ensures.same)

-- the step is stored
pub returns-in-Ok-Some-clause-fits : goal.returns-in-Ok-Some-clause-fits
returns-in-Ok-Some-clause-fits g c =
    let old = c.args.self.now in
    let step : IsDigest old.meta.marks c.in-Ok-Some.era c.in-Ok-Some.page = sym c.in-Ok-Some.ensures.step ∙ c.in-Ok-Some.field-0-is in
    let has : HasMarks g.D.Disk old.meta (digested old.meta.marks c.in-Ok-Some.page) c.digest_step.new.self = subst (HasDigested g.D.Disk old.meta c.digest_step.new.self) c.in-Ok-Some.field-0-is c.in-Ok-Some.ensures.ok in
    let meta = c.digest_step.new.self in
    fits-drawn g.D.Disk (over old meta) c.note.new.self (Digest c.args.id c.in-Ok-Some.era c.in-Ok-Some.page) c.note.result c.args.pass.now c.note.new.pass c.note.ensures.same c.note.ensures.drew
    (once-digested g.D.Disk old meta c.args.id c.in-Ok-Some.era c.in-Ok-Some.page c.digest_keeps_last_eras.ensures c.are_valid.ensures c.requires.may.fits c.digest_step.ensures.standing
    step has)

pub returns-in-Ok-Some-clause-stands : goal.returns-in-Ok-Some-clause-stands
returns-in-Ok-Some-clause-stands g c = λ opening stands.
    let old = c.args.self.now in
    let step : IsDigest old.meta.marks c.in-Ok-Some.era c.in-Ok-Some.page = sym c.in-Ok-Some.ensures.step ∙ c.in-Ok-Some.field-0-is in
    let has : HasMarks g.D.Disk old.meta (digested old.meta.marks c.in-Ok-Some.page) c.digest_step.new.self = subst (HasDigested g.D.Disk old.meta c.digest_step.new.self) c.in-Ok-Some.field-0-is c.in-Ok-Some.ensures.ok in
    let meta = c.digest_step.new.self in
    stands-drawn g.D.Disk opening (over old meta) c.note.new.self (Digest c.args.id c.in-Ok-Some.era c.in-Ok-Some.page) c.note.result c.note.ensures.same c.note.ensures.view c.note.ensures.drew.ascend
    (entries-stored g.D.Disk opening old meta (after_digest old.meta.marks) c.requires.may.fits.standing c.digest_step.ensures.moments
    (comes-digested g.D.Disk opening old c.digest_keeps_last_eras.ensures stands).durable.recovered c.digest_step.ensures.same.device c.digest_step.ensures.cause.cause.later stands)
    (owes-digest g.D.Disk opening old meta c.args.id c.in-Ok-Some.era c.in-Ok-Some.page c.digest_keeps_last_eras.ensures c.requires.may.fits.standing step
    has c.digest_step.ensures.same c.crashes_now.ensures stands)

pub returns-in-Ok-Some-clause-went : goal.returns-in-Ok-Some-clause-went
returns-in-Ok-Some-clause-went g c =
    let old = c.args.self.now in
    let step : IsDigest old.meta.marks c.in-Ok-Some.era c.in-Ok-Some.page = sym c.in-Ok-Some.ensures.step ∙ c.in-Ok-Some.field-0-is in
    let has : HasMarks g.D.Disk old.meta (digested old.meta.marks c.in-Ok-Some.page) c.digest_step.new.self = subst (HasDigested g.D.Disk old.meta c.digest_step.new.self) c.in-Ok-Some.field-0-is c.in-Ok-Some.ensures.ok in (
      step,
      subst (λ (m : Meta g.row.D.Denot). HasMarks g.D.Disk old.meta (digested old.meta.marks c.in-Ok-Some.page) m) (sym c.note.ensures.same.meta) has,
      subst (λ (m : Meta g.row.D.Denot). KeepsSnapshot g.D.Disk old.meta m) (sym c.note.ensures.same.meta) c.digest_step.ensures.same,
      drew-over old c.note.new.self c.digest_step.new.self c.args.pass.now c.note.new.pass (Digest c.args.id c.in-Ok-Some.era c.in-Ok-Some.page) c.note.result c.note.ensures.drew,
    )

pub returns-in-Ok-Some-clause-same : goal.returns-in-Ok-Some-clause-same
returns-in-Ok-Some-clause-same g c =
    let old = c.args.self.now in
    let meta = c.digest_step.new.self in
    let has : HasMarks g.D.Disk old.meta (digested old.meta.marks c.in-Ok-Some.page) meta = subst (HasDigested g.D.Disk old.meta meta) c.in-Ok-Some.field-0-is c.in-Ok-Some.ensures.ok in
    same-then g.D.Disk old (over old meta) c.note.new.self
    (same-over g.D.Disk old meta (digested old.meta.marks c.in-Ok-Some.page) c.digest_step.ensures.same.device has.memory.marks (origin-digested old.meta.marks c.in-Ok-Some.page))
    (same-rest g.D.Disk (over old meta) c.note.new.self c.note.ensures.same)

-- it isn't
pub returns-in-Err-clause-stands : goal.returns-in-Err-clause-stands
returns-in-Err-clause-stands g c = λ opening stands.
    let old = c.args.self.now in
    let meta = c.digest_step.new.self in
    let cause = c.in-Err.ensures.cause in
    let view = view_of g.D.Disk old in
    let rose = rose-since (last_faults view.least view.notes) view.faults c.in-Err.count (last_faults-le view.least view.faults view.notes stands.own.counts)
    (subst (Rose view.faults) (sym cause.count) cause.cause.failed) in
    stands-drawn g.D.Disk opening (over old meta) c.note-in-Err.new.self (Refused c.args.id DigestKind (MetaFault c.in-Err.count)) c.note-in-Err.result c.note-in-Err.ensures.same c.note-in-Err.ensures.view
    c.note-in-Err.ensures.drew.ascend
    (entries-stored g.D.Disk opening old meta (after_digest old.meta.marks) c.requires.may.fits.standing c.digest_step.ensures.moments
    (comes-digested g.D.Disk opening old c.digest_keeps_last_eras.ensures stands).durable.recovered c.digest_step.ensures.same.device c.digest_step.ensures.cause.cause.later stands)
    (owes-undigested g.D.Disk opening old meta c.args.id c.in-Err.count c.digest_keeps_last_eras.ensures c.requires.may.fits.standing c.requires.stored c.in-Err.ensures.err c.digest_step.ensures.same
    cause.count rose c.crashes_now-in-Err.ensures stands)

pub returns-in-Err-clause-went : goal.returns-in-Err-clause-went
returns-in-Err-clause-went g c =
    let old = c.args.self.now in (
      c.in-Err.ensures.step,
      subst (λ (m : Meta g.row.D.Denot). StillHasMarks g.D.Disk old.meta (after_digest old.meta.marks) m) (sym c.note-in-Err.ensures.same.meta) c.in-Err.ensures.err,
      subst (λ (m : Meta g.row.D.Denot). KeepsSnapshot g.D.Disk old.meta m) (sym c.note-in-Err.ensures.same.meta) c.digest_step.ensures.same,
      drew-over old c.note-in-Err.new.self c.digest_step.new.self c.args.pass.now c.note-in-Err.new.pass (Refused c.args.id DigestKind (MetaFault c.in-Err.count)) c.note-in-Err.result c.note-in-Err.ensures.drew,
    )
