use Rattle.std.proofs.Common.{◌^◌, ◌<◌, ◌≤◌, Some, None, refl, sym, ap, ◌∙◌, arith}
use Rattle.era_base.proofs.Moments.{went-none, went-wider}
use Rattle.era_model.specs.Marks.{BlockMarks, rolled}
use Rattle.era_meta.specs.declared.refusal.MetaError.TheVariants.{Fault}
use Rattle.era_meta.specs.InMemory.{MetaStores}
use Rattle.era_meta.specs.Starting.{LeavesOpening}
use Rattle.era_meta.specs.Trials.{begin_trials, metadata_blocks}
use Rattle.era_meta.proofs.EraBegins.{marks-are, era-is, still-leaves, roll-leaves, roll-begins}
use Rattle.era_meta.proofs.FreshEras.{rolled-fresh}
use Rattle.era_meta.proofs.Looks.{same-still}
use Rattle.era_meta.proofs.MetaKept.{rolled-sectors, rolled-size}
use Rattle.era_meta.proofs.Starts.{started-still, started-commits}
use Rattle.era_meta.proofs.starting.begin_era.Goals as goal

-- no era may begin
pub returns-in-Err-clause-started : goal.returns-in-Err-clause-started
returns-in-Err-clause-started g c =
    let meta = c.args.meta in
    let now = (g.D.Disk.history meta.slots.disk).now in
    rw c.into_disk.ensures
    (started-still g.D.Disk (λ seen. begin_trials c.args.asked.now) meta.slots.disk c.in-Err.error
    (λ told. let read = c.requires.looked.told told in
    c.in-Err.ensures.found (metadata_blocks (g.D.Disk.sectors meta.slots.disk)) now.seen read.root (era-is meta now.seen now read (marks-are g.D.Disk meta c.requires.looked told)) read.number)
    (c.in-Err.ensures.quiet (g.D.Disk.faults meta.slots.disk)))

pub returns-in-Err-clause-moments : goal.returns-in-Err-clause-moments
returns-in-Err-clause-moments g c =
    let meta = c.args.meta in
    rw c.into_disk.ensures
    (λ told.
    let now = (g.D.Disk.history meta.slots.disk).now in
    went-none (LeavesOpening c.args.asked.now) (g.D.Disk.history meta.slots.disk) (still-leaves c.args.asked.now now now (c.requires.looked.told told).clean (same-still now)))

-- it began
pub returns-in-Ok-roll-clause-started : goal.returns-in-Ok-roll-clause-started
returns-in-Ok-roll-clause-started g c =
    let meta = c.args.meta in
    let now = (g.D.Disk.history meta.slots.disk).now in
    started-commits g.D.Disk (λ seen. begin_trials c.args.asked.now) meta.slots.disk c.roll.new.self.slots.disk None tt
    (λ told. let read = c.requires.looked.told told in (
      c.in-Ok.ensures.found (metadata_blocks (g.D.Disk.sectors meta.slots.disk)) now.seen read.root (era-is meta now.seen now read (marks-are g.D.Disk meta c.requires.looked told)) read.number,
      refl,
    ))
    (λ told. (c.roll.ensures.moments told).continues.later) c.roll.ensures.same.device c.in-Ok-roll.ensures.cause.cause.kept

pub returns-in-Ok-roll-clause-moments : goal.returns-in-Ok-roll-clause-moments
returns-in-Ok-roll-clause-moments g c = λ told.
    let meta = c.args.meta in
    let old = g.D.Disk.history meta.slots.disk in
    went-wider (MetaStores meta (rolled meta.marks)) (LeavesOpening c.args.asked.now) old (g.D.Disk.history c.roll.new.self.slots.disk)
    (λ state stores. roll-leaves c.image_stands_for_one_meaning.ensures.one c.image_stands_for_one_meaning.ensures.blank c.args.asked.now meta old.now state
    (c.requires.looked.told told) (marks-are g.D.Disk meta c.requires.looked told) stores)
    (c.roll.ensures.moments told)

pub returns-in-Ok-roll-clause-begun : goal.returns-in-Ok-roll-clause-begun
returns-in-Ok-roll-clause-begun g c =
    let meta = c.args.meta in
    let new = c.roll.new.self in
    let ok = c.in-Ok-roll.ensures.ok in
    let fits = c.in-Ok.ensures.ok in
    let fit = c.requires.looked.standing.fit in
    let number = ok.0.number in
    let below : meta.slots.number < 2 ^ 62 = fits.2 in
    record {
      standing = c.roll.ensures.standing;
      stored = ok.1.unstored;
      fresh = λ block.
          rolled-fresh meta.marks new.marks block (c.switch_keeps_last_eras.ensures meta.marks c.are_valid.ensures) (c.last_eras_are_bounded.ensures meta.marks c.are_valid.ensures)
          ok.1.marks;
      numbered = ((let e : 0 < new.slots.number = omega arith in e), (let e : new.slots.number ≤ 2 ^ 62 = omega arith in e));
      geometry = (
        c.roll.ensures.standing.fit.sectors ∙ (ap (λ (m : BlockMarks). m.sectors) ok.1.marks ∙ (rolled-sectors meta.marks ∙ (sym fit.sectors ∙ fits.0.0))),
        c.roll.ensures.standing.fit.block_sectors ∙ (ap (λ (m : BlockMarks). m.block_sectors) ok.1.marks ∙ (rolled-size meta.marks ∙ (sym fit.block_sectors ∙ fits.0.1))),
      );
      told = λ told.
          roll-begins c.image_stands_for_one_meaning.ensures.one c.image_stands_for_one_meaning.ensures.blank c.args.asked.now meta new
          (g.D.Disk.history meta.slots.disk).now (g.D.Disk.history new.slots.disk).now (c.requires.looked.told told) (marks-are g.D.Disk meta c.requires.looked told) fits.1
          (ok.0.stored told) ok.0.number;
      alone = λ told. (ok.0.stored told).alone;
    }

-- the commit failed
pub returns-in-Err-roll-clause-started : goal.returns-in-Err-roll-clause-started
returns-in-Err-roll-clause-started g c =
    let meta = c.args.meta in
    let now = (g.D.Disk.history meta.slots.disk).now in
    rw c.into_disk-in-Err-roll.ensures
    (started-commits g.D.Disk (λ seen. begin_trials c.args.asked.now) meta.slots.disk c.roll.new.self.slots.disk (Some (Fault c.in-Err-roll.count)) tt
    (λ told. let read = c.requires.looked.told told in (
      c.in-Ok.ensures.found (metadata_blocks (g.D.Disk.sectors meta.slots.disk)) now.seen read.root (era-is meta now.seen now read (marks-are g.D.Disk meta c.requires.looked told)) read.number,
      refl,
    ))
    (λ told. (c.roll.ensures.moments told).continues.later) c.roll.ensures.same.device (c.in-Err-roll.ensures.cause.count, c.in-Err-roll.ensures.cause.cause.failed))

pub returns-in-Err-roll-clause-moments : goal.returns-in-Err-roll-clause-moments
returns-in-Err-roll-clause-moments g c =
    let meta = c.args.meta in
    let old = g.D.Disk.history meta.slots.disk in
    rw c.into_disk-in-Err-roll.ensures
    (λ told. went-wider (MetaStores meta (rolled meta.marks)) (LeavesOpening c.args.asked.now) old (g.D.Disk.history c.roll.new.self.slots.disk)
    (λ state stores. roll-leaves c.image_stands_for_one_meaning.ensures.one c.image_stands_for_one_meaning.ensures.blank c.args.asked.now meta old.now state
    (c.requires.looked.told told) (marks-are g.D.Disk meta c.requires.looked told) stores)
    (c.roll.ensures.moments told))
