use Rattle.std.proofs.Common.{ℕ, [], ◌∷◌, arith, refl, sym, ap, ◌∙◌, subst}
use Rattle.era_base.specs.Faults.{Rose}
use Rattle.era_meta.specs.Digested.{HasMarks, StillHasMarks}
use Rattle.era_meta.specs.declared.metadata.Meta.{Meta}
use Rattle.era_model.specs.declared.event.Event.TheVariants.{Mark, Refused, Tried}
use Rattle.era_model.specs.declared.event.Kind.TheVariants.{Write as WriteKind}
use Rattle.era_model.specs.declared.event.Why.TheVariants.{MetaFault}
use Rattle.era_model.specs.Marks.{with_block}
use Rattle.era_notes.specs.Notes.{last_faults, own_history}
use Rattle.era_keeper.specs.Calls.{Drew}
use Rattle.era_keeper.specs.Keepers.{KeeperView, view_of}
use Rattle.era_keeper.proofs.Counts.{last_faults-le, rose-since}
use Rattle.era_keeper.proofs.Drawn.{drew-two}
use Rattle.era_keeper.proofs.Fits.{fits-drawn, once-again}
use Rattle.era_keeper.proofs.Marked.{may-try, once-marked, unset-over}
use Rattle.era_keeper.proofs.Marks.{IsAsked, owes-mark, owes-unmarked, recovers-asked}
use Rattle.era_keeper.proofs.Quiet.{stands-drawn}
use Rattle.era_keeper.proofs.Stores.{entries-stored, over, own}
use Rattle.era_keeper.proofs.keeper.Keeper.mark_stored.Goals as goal

-- the mark is stored
pub returns-in-Ok-clause-fits : goal.returns-in-Ok-clause-fits
returns-in-Ok-clause-fits g c =
    let old = c.args.self.now in
    let unset = unset-over old.meta c.tell.new.self.meta c.args.block c.tell.ensures.same.meta c.are_valid.ensures c.requires.block.0 c.requires.block.1 c.mark_gives_last_era.ensures c.last_eras_are_bounded.ensures in
    fits-drawn g.D.Disk (over c.tell.new.self c.mark.new.self) c.note.new.self (Mark c.args.id c.args.block c.era-era.result) c.note.result c.tell.new.pass c.note.new.pass c.note.ensures.same c.note.ensures.drew
    (once-marked g.D.Disk c.tell.new.self c.mark.new.self c.args.id c.args.block c.era-era.result c.tell.ensures.fits c.mark.ensures.standing
    (c.era-era.ensures ∙ sym (ap (λ (m : Meta g.row.D.Denot). m.marks.era) c.tell.ensures.same.meta)) c.in-Ok.ensures.ok.1.marks c.in-Ok.ensures.ok.0.number unset.gives)

pub returns-in-Ok-clause-stands : goal.returns-in-Ok-clause-stands
returns-in-Ok-clause-stands g c = λ opening stands.
    let old = c.args.self.now in
    let mid = c.tell.new.self in
    let meta = c.mark.new.self in
    let era : ℕ = c.era-era.result in
    let later = c.tell.ensures.stands opening (may-try g.D.Disk opening old c.args.block era c.era-era.ensures c.requires.block.0 c.requires.block.1 stands) tt stands in
    let asked : IsAsked g.D.Disk opening mid c.args.id c.args.block era = record {
      before = own g.D.Disk opening old;
      asked = ap (λ (v : KeeperView). own_history opening v.notes) c.tell.ensures.drew.2;
      present = c.era-era.ensures ∙ sym (ap (λ (m : Meta g.row.D.Denot). m.marks.era) c.tell.ensures.same.meta);
      of = unset-over old.meta mid.meta c.args.block c.tell.ensures.same.meta c.are_valid.ensures c.requires.block.0 c.requires.block.1 c.mark_gives_last_era.ensures c.last_eras_are_bounded.ensures;
    } in
    stands-drawn g.D.Disk opening (over mid meta) c.note.new.self (Mark c.args.id c.args.block era) c.note.result c.note.ensures.same c.note.ensures.view c.note.ensures.drew.ascend
    (entries-stored g.D.Disk opening mid meta (with_block mid.meta.marks c.args.block) c.tell.ensures.fits.standing c.mark.ensures.moments
    (recovers-asked g.D.Disk opening mid c.args.id c.args.block era asked later) c.mark.ensures.same.device c.mark.ensures.cause.cause.later later)
    (owes-mark g.D.Disk opening mid meta c.args.id c.args.block era c.tell.ensures.fits.standing asked c.in-Ok.ensures.ok.0 c.in-Ok.ensures.ok.1 c.mark.ensures.same c.crashes_now.ensures later)

pub returns-in-Ok-clause-went : goal.returns-in-Ok-clause-went
returns-in-Ok-clause-went g c =
    let old = c.args.self.now in
    let mid = c.tell.new.self in (
      subst (λ (m : Meta g.row.D.Denot). HasMarks g.D.Disk old.meta (with_block old.meta.marks c.args.block) m) (sym c.note.ensures.same.meta)
          (subst (λ (m : Meta g.row.D.Denot). HasMarks g.D.Disk m (with_block m.marks c.args.block) c.mark.new.self) c.tell.ensures.same.meta
          (record { stored = c.in-Ok.ensures.ok.0; memory = c.in-Ok.ensures.ok.1 })),
      subst (λ (era : ℕ). Drew (Tried c.args.id c.args.block era ∷ Mark c.args.id c.args.block era ∷ []) old c.note.new.self c.args.pass.now c.note.new.pass) c.era-era.ensures
          (drew-two old mid (over mid c.mark.new.self) c.note.new.self c.args.pass.now c.tell.new.pass c.note.new.pass (Tried c.args.id c.args.block c.era-era.result)
          (Mark c.args.id c.args.block c.era-era.result) c.tell.ensures.drew.0 c.note.result c.tell.ensures.drew.1 refl c.note.ensures.drew),
    )

-- it isn't
pub returns-in-Err-clause-fits : goal.returns-in-Err-clause-fits
returns-in-Err-clause-fits g c =
    let number = c.in-Err.ensures.err.0.number in
    fits-drawn g.D.Disk (over c.tell.new.self c.mark.new.self) c.note-in-Err.new.self (Refused c.args.id WriteKind (MetaFault c.in-Err.count)) c.note-in-Err.result c.tell.new.pass c.note-in-Err.new.pass
    c.note-in-Err.ensures.same c.note-in-Err.ensures.drew
    (once-again g.D.Disk (Refused c.args.id WriteKind (MetaFault c.in-Err.count)) 0 c.tell.new.self c.mark.new.self c.tell.ensures.fits c.mark.ensures.standing c.in-Err.ensures.err.1.marks
    (omega (arith, number)) c.tell.ensures.fits.switched)

pub returns-in-Err-clause-stands : goal.returns-in-Err-clause-stands
returns-in-Err-clause-stands g c = λ opening stands.
    let old = c.args.self.now in
    let mid = c.tell.new.self in
    let meta = c.mark.new.self in
    let era : ℕ = c.era-era.result in
    let later = c.tell.ensures.stands opening (may-try g.D.Disk opening old c.args.block era c.era-era.ensures c.requires.block.0 c.requires.block.1 stands) tt stands in
    let asked : IsAsked g.D.Disk opening mid c.args.id c.args.block era = record {
      before = own g.D.Disk opening old;
      asked = ap (λ (v : KeeperView). own_history opening v.notes) c.tell.ensures.drew.2;
      present = c.era-era.ensures ∙ sym (ap (λ (m : Meta g.row.D.Denot). m.marks.era) c.tell.ensures.same.meta);
      of = unset-over old.meta mid.meta c.args.block c.tell.ensures.same.meta c.are_valid.ensures c.requires.block.0 c.requires.block.1 c.mark_gives_last_era.ensures c.last_eras_are_bounded.ensures;
    } in
    let cause = c.in-Err.ensures.cause in
    let view = view_of g.D.Disk mid in
    let rose = rose-since (last_faults view.least view.notes) view.faults c.in-Err.count (last_faults-le view.least view.faults view.notes later.own.counts)
    (subst (Rose view.faults) (sym cause.count) cause.cause.failed) in
    stands-drawn g.D.Disk opening (over mid meta) c.note-in-Err.new.self (Refused c.args.id WriteKind (MetaFault c.in-Err.count)) c.note-in-Err.result c.note-in-Err.ensures.same c.note-in-Err.ensures.view
    c.note-in-Err.ensures.drew.ascend
    (entries-stored g.D.Disk opening mid meta (with_block mid.meta.marks c.args.block) c.tell.ensures.fits.standing c.mark.ensures.moments
    (recovers-asked g.D.Disk opening mid c.args.id c.args.block era asked later) c.mark.ensures.same.device c.mark.ensures.cause.cause.later later)
    (owes-unmarked g.D.Disk opening mid meta c.args.id c.args.block era c.in-Err.count c.tell.ensures.fits.standing asked
    (ap (λ (m : Meta g.row.D.Denot). m.unstored) c.tell.ensures.same.meta ∙ c.requires.stored) c.in-Err.ensures.err.0 c.in-Err.ensures.err.1 c.mark.ensures.same cause.count rose
    c.crashes_now-in-Err.ensures later)

pub returns-in-Err-clause-went : goal.returns-in-Err-clause-went
returns-in-Err-clause-went g c =
    let old = c.args.self.now in
    let mid = c.tell.new.self in (
      subst (λ (m : Meta g.row.D.Denot). StillHasMarks g.D.Disk old.meta (with_block old.meta.marks c.args.block) m) (sym c.note-in-Err.ensures.same.meta)
          (subst (λ (m : Meta g.row.D.Denot). StillHasMarks g.D.Disk m (with_block m.marks c.args.block) c.mark.new.self) c.tell.ensures.same.meta
          (record { failed = c.in-Err.ensures.err.0; memory = c.in-Err.ensures.err.1 })),
      subst (λ (era : ℕ). Drew (Tried c.args.id c.args.block era ∷ Refused c.args.id WriteKind (MetaFault c.in-Err.count) ∷ []) old c.note-in-Err.new.self c.args.pass.now c.note-in-Err.new.pass) c.era-era.ensures
          (drew-two old mid (over mid c.mark.new.self) c.note-in-Err.new.self c.args.pass.now c.tell.new.pass c.note-in-Err.new.pass (Tried c.args.id c.args.block c.era-era.result)
          (Refused c.args.id WriteKind (MetaFault c.in-Err.count)) c.tell.ensures.drew.0 c.note-in-Err.result c.tell.ensures.drew.1 refl c.note-in-Err.ensures.drew),
    )
