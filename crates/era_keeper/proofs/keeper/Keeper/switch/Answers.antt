use Rattle.std.proofs.Common.{◌+◌, ◌/◌, ℕ, true, arith, refl, sym, ap, ◌∙◌, subst}
use Rattle.era_base.specs.Faults.{Rose}
use Rattle.era_gate.specs.Places.{AscendFrom}
use Rattle.era_meta.specs.Digested.{HasMarks}
use Rattle.era_meta.specs.Held.{snapshot_marks}
use Rattle.era_meta.specs.MetaCalls.{CommitsMarks, FailsToCommitMarks, IsInMemory}
use Rattle.era_meta.specs.declared.metadata.Meta.{Meta}
use Rattle.era_model.specs.declared.event.Event.TheVariants.{Refused, Roll}
use Rattle.era_model.specs.declared.event.Kind.TheVariants.{Checkpoint as CheckpointKind}
use Rattle.era_model.specs.declared.event.Why.TheVariants.{MetaFault}
use Rattle.era_model.specs.Marks.{BlockMarks, rolled}
use Rattle.era_keeper.specs.Keepers.{EntriesStand, KeeperFits, KeeperView, ViewStands, comes_back}
use Rattle.era_keeper.proofs.Drawn.{drew-one, drew-to, drew-two, same-rest, same-then}
use Rattle.era_keeper.proofs.Fits.{fits-drawn, fits-rolled, once-again}
use Rattle.era_keeper.proofs.Origins.{origin-rolled, same-over}
use Rattle.era_keeper.proofs.Quiet.{OwesDraw, stands-drawn}
use Rattle.era_keeper.proofs.Rolls.{IsSwitch, RollWent, own2, owes-unrolled, stands-rolled}
use Rattle.era_keeper.proofs.Stores.{over}
use Rattle.era_keeper.proofs.Views.{called}
use Rattle.era_keeper.proofs.keeper.Keeper.switch.Goals as goal

-- it is stored
pub returns-in-Ok-clause-fits : goal.returns-in-Ok-clause-fits
returns-in-Ok-clause-fits g c =
    let old = c.args.self.now in
    let m : BlockMarks = old.meta.marks in
    let moved = c.requires.moved in
    let same = c.note.ensures.same.meta in
    let number = c.in-Ok.ensures.ok.0.number ∙ ap (λ (meta : Meta g.row.D.Denot). meta.slots.number + 1) same in
    fits-rolled g.D.Disk old c.note.new.self c.roll.new.self c.args.id c.args.era c.note.result c.args.pass.now c.note.new.pass moved.word moved.next moved.numbers c.note.ensures.drew
    c.roll.ensures.standing (c.in-Ok.ensures.ok.1.marks ∙ ap (λ (meta : Meta g.row.D.Denot). rolled meta.marks) same) (c.switch_keeps_last_eras.ensures m c.are_valid.ensures)
    (c.last_eras_are_bounded.ensures m c.are_valid.ensures) (omega (arith, number))

pub returns-in-Ok-clause-stands : goal.returns-in-Ok-clause-stands
returns-in-Ok-clause-stands g c = λ opening stands.
    let old = c.args.self.now in
    let new = c.roll.new.self in
    let moved = c.requires.moved in
    let same = c.note.ensures.same.meta in
    let is : IsSwitch g.D.Disk old c.args.era = record {
      standing = moved.standing;
      stored = moved.stored;
      next = moved.next;
      keeps = c.switch_keeps_last_eras.ensures old.meta.marks c.are_valid.ensures;
      images = c.crashes_now.ensures;
    } in
    let went : RollWent g.D.Disk old.meta new = subst (λ (meta : Meta g.row.D.Denot). RollWent g.D.Disk meta new) same
    (record { moments = c.roll.ensures.moments; marks = c.in-Ok.ensures.ok.1.marks; same = c.roll.ensures.same; later = c.roll.ensures.cause.cause.later }) in
    let ascend = subst (AscendFrom 0) (ap (λ (v : KeeperView). v.state.entries) c.note.ensures.view) c.note.ensures.drew.ascend in
    subst (λ (v : KeeperView). ViewStands g.D.Disk.tells opening (comes_back g.D.Disk new)
    (called v (g.D.Disk.history new.slots.disk) (g.D.Disk.faults new.slots.disk) new.marks (snapshot_marks new.snapshot) new.unstored (g.D.Disk.sectors new.slots.disk / 8))) (sym c.note.ensures.view)
    (stands-rolled g.D.Disk opening old c.args.id c.args.era c.note.result is stands new went ascend
    (subst (λ (meta : Meta g.row.D.Denot). CommitsMarks g.D.Disk meta (rolled meta.marks) new) same c.in-Ok.ensures.ok.0) c.in-Ok.ensures.ok.1.unstored)

pub returns-in-Ok-clause-went : goal.returns-in-Ok-clause-went
returns-in-Ok-clause-went g c =
    let old = c.args.self.now in (
      subst (λ (meta : Meta g.row.D.Denot). HasMarks g.D.Disk meta (rolled meta.marks) c.roll.new.self) c.note.ensures.same.meta
          (record { stored = c.in-Ok.ensures.ok.0; memory = c.in-Ok.ensures.ok.1 }),
      drew-to old c.note.new.self (over c.note.new.self c.roll.new.self) c.args.pass.now c.note.new.pass _ refl
          (drew-one old c.note.new.self c.args.pass.now c.note.new.pass (Roll c.args.id c.args.era) c.note.result c.note.ensures.drew),
    )

pub returns-in-Ok-clause-same : goal.returns-in-Ok-clause-same
returns-in-Ok-clause-same g c =
    let mid = c.note.new.self in
    let m : BlockMarks = mid.meta.marks in
    same-then g.D.Disk c.args.self.now mid (over mid c.roll.new.self) (same-rest g.D.Disk c.args.self.now mid c.note.ensures.same)
    (same-over g.D.Disk mid c.roll.new.self (rolled m) c.roll.ensures.same.device c.in-Ok.ensures.ok.1.marks (origin-rolled m))

-- it isn't
pub returns-in-Err-clause-fits : goal.returns-in-Err-clause-fits
returns-in-Err-clause-fits g c =
    let old = c.args.self.now in
    let new = c.roll.new.self in
    let m : BlockMarks = old.meta.marks in
    let moved = c.requires.moved in
    let same = c.note.ensures.same.meta in
    let number = c.in-Err.ensures.err.0.number ∙ ap (λ (meta : Meta g.row.D.Denot). meta.slots.number) same in
    let fits : KeeperFits g.D.Disk (over c.note.new.self new) =
    fits-rolled g.D.Disk old c.note.new.self new c.args.id c.args.era c.note.result c.args.pass.now c.note.new.pass moved.word moved.next moved.numbers c.note.ensures.drew
    c.roll.ensures.standing (c.in-Err.ensures.err.1.marks ∙ ap (λ (meta : Meta g.row.D.Denot). rolled meta.marks) same) (c.switch_keeps_last_eras.ensures m c.are_valid.ensures)
    (c.last_eras_are_bounded.ensures m c.are_valid.ensures) (omega (arith, number)) in
    fits-drawn g.D.Disk (over c.note.new.self new) c.note-in-Err.new.self (Refused c.args.id CheckpointKind (MetaFault c.in-Err.count)) c.note-in-Err.result c.note.new.pass c.note-in-Err.new.pass
    c.note-in-Err.ensures.same c.note-in-Err.ensures.drew
    (once-again g.D.Disk (Refused c.args.id CheckpointKind (MetaFault c.in-Err.count)) 0 (over c.note.new.self new) new fits c.roll.ensures.standing refl (omega arith) fits.switched)

pub returns-in-Err-clause-stands : goal.returns-in-Err-clause-stands
returns-in-Err-clause-stands g c = λ opening stands.
    let old = c.args.self.now in
    let new = c.roll.new.self in
    let moved = c.requires.moved in
    let same = c.note.ensures.same.meta in
    let cause = c.in-Err.ensures.cause in
    let count : ℕ = c.in-Err.count in
    let is : IsSwitch g.D.Disk old c.args.era = record {
      standing = moved.standing;
      stored = moved.stored;
      next = moved.next;
      keeps = c.switch_keeps_last_eras.ensures old.meta.marks c.are_valid.ensures;
      images = c.crashes_now.ensures;
    } in
    let went : RollWent g.D.Disk old.meta new = subst (λ (meta : Meta g.row.D.Denot). RollWent g.D.Disk meta new) same
    (record { moments = c.roll.ensures.moments; marks = c.in-Err.ensures.err.1.marks; same = c.roll.ensures.same; later = c.roll.ensures.cause.cause.later }) in
    let ascend = subst (AscendFrom 0) (ap (λ (v : KeeperView). v.state.entries) c.note.ensures.view) c.note.ensures.drew.ascend in
    let rose = subst (λ (meta : Meta g.row.D.Denot). Rose (g.D.Disk.faults meta.slots.disk) count) same
    (subst (Rose (g.D.Disk.faults c.note.new.self.meta.slots.disk)) (sym cause.count) cause.cause.failed) in
    stands-drawn g.D.Disk opening (over c.note.new.self new) c.note-in-Err.new.self (Refused c.args.id CheckpointKind (MetaFault count)) c.note-in-Err.result c.note-in-Err.ensures.same c.note-in-Err.ensures.view
    c.note-in-Err.ensures.drew.ascend
    (subst (λ (v : KeeperView). EntriesStand g.D.Disk.tells opening
    (called v (g.D.Disk.history new.slots.disk) (g.D.Disk.faults new.slots.disk) new.marks (snapshot_marks new.snapshot) new.unstored (g.D.Disk.sectors new.slots.disk / 8))) (sym c.note.ensures.view)
    (own2 g.D.Disk opening old c.args.id c.args.era c.note.result is stands new went ascend))
    (subst (λ (v : KeeperView). OwesDraw g.D.Disk.tells opening (comes_back g.D.Disk new)
    (called v (g.D.Disk.history new.slots.disk) (g.D.Disk.faults new.slots.disk) new.marks (snapshot_marks new.snapshot) new.unstored (g.D.Disk.sectors new.slots.disk / 8))
    (Refused c.args.id CheckpointKind (MetaFault count))) (sym c.note.ensures.view)
    (owes-unrolled g.D.Disk opening old c.args.id c.args.era c.note.result is stands new went ascend count
    (subst (λ (meta : Meta g.row.D.Denot). FailsToCommitMarks g.D.Disk meta (rolled meta.marks) new) same c.in-Err.ensures.err.0) c.in-Err.ensures.err.1.unstored cause.count rose c.crashes_now-in-Err.ensures))

pub returns-in-Err-clause-went : goal.returns-in-Err-clause-went
returns-in-Err-clause-went g c =
    let old = c.args.self.now in
    let same = c.note.ensures.same.meta in
    let then = sym c.note-in-Err.ensures.same.meta in (
      subst (λ (new : Meta g.row.D.Denot). FailsToCommitMarks g.D.Disk old.meta (rolled old.meta.marks) new) then
          (subst (λ (meta : Meta g.row.D.Denot). FailsToCommitMarks g.D.Disk meta (rolled meta.marks) c.roll.new.self) same c.in-Err.ensures.err.0),
      subst (λ (new : Meta g.row.D.Denot). IsInMemory new (rolled old.meta.marks) true) then
          (subst (λ (meta : Meta g.row.D.Denot). IsInMemory c.roll.new.self (rolled meta.marks) true) same c.in-Err.ensures.err.1),
      drew-two old c.note.new.self (over c.note.new.self c.roll.new.self) c.note-in-Err.new.self c.args.pass.now c.note.new.pass c.note-in-Err.new.pass (Roll c.args.id c.args.era)
          (Refused c.args.id CheckpointKind (MetaFault c.in-Err.count)) c.note.result c.note-in-Err.result c.note.ensures.drew refl c.note-in-Err.ensures.drew,
    )

pub returns-in-Err-clause-same : goal.returns-in-Err-clause-same
returns-in-Err-clause-same g c =
    let mid = c.note.new.self in
    let m : BlockMarks = mid.meta.marks in
    let behind = over mid c.roll.new.self in
    same-then g.D.Disk c.args.self.now mid c.note-in-Err.new.self (same-rest g.D.Disk c.args.self.now mid c.note.ensures.same)
    (same-then g.D.Disk mid behind c.note-in-Err.new.self
    (same-over g.D.Disk mid c.roll.new.self (rolled m) c.roll.ensures.same.device c.in-Err.ensures.err.1.marks (origin-rolled m))
    (same-rest g.D.Disk behind c.note-in-Err.new.self c.note-in-Err.ensures.same))
