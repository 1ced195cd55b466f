use Rattle.std.proofs.Common.{◌<◌, ◌≤◌, [], Some, None, refl, sym, ap, ◌∙◌, subst, arith}
use Rattle.era_base.proofs.Moments.{went-none, went-wider}
use Rattle.era_layout.specs.Root.{fields_of}
use Rattle.era_model.specs.Marks.{BlockMarks}
use Rattle.era_meta.specs.declared.refusal.MetaError.TheVariants.{Fault, Memory}
use Rattle.era_meta.specs.FormatCalls.{AreFirstParts}
use Rattle.era_meta.specs.Formatting.{LeavesBlankOr, marks_alone}
use Rattle.era_meta.specs.Openings.{meta_of}
use Rattle.era_meta.specs.Starting.{LeavesOpening}
use Rattle.era_meta.proofs.EraBegins.{blank-leaves, blank-begins, first-room, still-leaves}
use Rattle.era_meta.proofs.FreshEras.{first-fresh}
use Rattle.era_meta.proofs.Looks.{same-still}
use Rattle.era_meta.proofs.Starts.{started-still, started-commits}
use Rattle.era_meta.proofs.serving.start_blank.Goals as goal

-- there is no memory
pub returns-in_default-clause-started : goal.returns-in_default-clause-started
returns-in_default-clause-started g c =
    rw c.into_disk.ensures
    (started-still g.D.Disk (λ seen. []) c.args.slots.disk Memory (λ told. tt) refl)

pub returns-in_default-clause-moments : goal.returns-in_default-clause-moments
returns-in_default-clause-moments g c =
    rw c.into_disk.ensures
    (λ told.
    let now = (g.D.Disk.history c.args.slots.disk).now in
    went-none (LeavesOpening c.args.asked.now) (g.D.Disk.history c.args.slots.disk) (still-leaves c.args.asked.now now now (c.requires.opened told).0 (same-still now)))

pub format_slots-requires-clause-parts : goal.format_slots-requires-clause-parts
format_slots-requires-clause-parts g c =
    let first = c.in-Ok.ensures in
    subst (λ (m : BlockMarks). AreFirstParts m c.in-Ok.parts) (sym first.marks) first

pub format_slots-requires-clause-room : goal.format_slots-requires-clause-room
format_slots-requires-clause-room g c =
    let first = c.in-Ok.ensures in
    first-room (g.D.Disk.sectors c.args.slots.disk) c.args.asked.now (fields_of c.in-Ok.parts.root) c.in-Ok.parts.marks first.fit.marks first.marks c.requires.have

-- it is formatted
pub returns-in-Ok-format_slots-clause-started : goal.returns-in-Ok-format_slots-clause-started
returns-in-Ok-format_slots-clause-started g c =
    rw c.joined.ensures
    (started-commits g.D.Disk (λ seen. []) c.args.slots.disk c.format_slots.new.slots.disk None tt (λ told. (tt, refl))
    (λ told. (c.format_slots.ensures.moments told).continues.later) c.format_slots.ensures.disk c.in-Ok-format_slots.ensures.cause.cause.kept)

pub returns-in-Ok-format_slots-clause-moments : goal.returns-in-Ok-format_slots-clause-moments
returns-in-Ok-format_slots-clause-moments g c =
    rw c.joined.ensures
    (λ told.
    let old = g.D.Disk.history c.args.slots.disk in
    let first = c.in-Ok.ensures in
    went-wider (λ before. LeavesBlankOr (marks_alone c.in-Ok.parts.marks)) (LeavesOpening c.args.asked.now) old (g.D.Disk.history c.format_slots.new.slots.disk)
    (λ state leaves. blank-leaves c.image_stands_for_one_meaning.ensures.blank c.args.asked.now old.now state c.in-Ok.parts.marks (c.requires.opened told).1 first.marks leaves)
    (c.format_slots.ensures.moments told))

pub returns-in-Ok-format_slots-clause-begun : goal.returns-in-Ok-format_slots-clause-begun
returns-in-Ok-format_slots-clause-begun g c =
    let first = c.in-Ok.ensures in
    let formatted = c.in-Ok-format_slots.ensures.ok.0 in
    let meta = meta_of c.format_slots.new.slots c.in-Ok.parts in
    let one = formatted.number in
    rw c.joined.ensures
    (record {
      standing = formatted.ready.standing;
      stored = refl;
      fresh = λ block. first-fresh c.args.asked.now.sectors c.args.asked.now.block_sectors c.in-Ok.parts.marks block first.marks;
      numbered = ((let e : 0 < meta.slots.number = omega (arith, one) in e), (let e : meta.slots.number ≤ 4611686018427387904 = omega (arith, one) in e));
      geometry = (
        formatted.ready.standing.fit.sectors ∙ ap (λ (m : BlockMarks). m.sectors) first.marks,
        formatted.ready.standing.fit.block_sectors ∙ ap (λ (m : BlockMarks). m.block_sectors) first.marks,
      );
      told = λ told.
          blank-begins c.image_stands_for_one_meaning.ensures.blank c.args.asked.now (g.D.Disk.history c.args.slots.disk).now.seen meta (g.D.Disk.history meta.slots.disk).now
          c.in-Ok.parts.marks (c.requires.opened told).1 first.marks (formatted.stored told) one;
      alone = formatted.alone;
    })

-- the commit failed
pub returns-in-Err-clause-started : goal.returns-in-Err-clause-started
returns-in-Err-clause-started g c =
    rw c.into_disk-in-Err.ensures
    (started-commits g.D.Disk (λ seen. []) c.args.slots.disk c.format_slots.new.slots.disk (Some (Fault c.in-Err.count)) tt (λ told. (tt, refl))
    (λ told. (c.format_slots.ensures.moments told).continues.later) c.format_slots.ensures.disk (c.in-Err.ensures.cause.count, c.in-Err.ensures.cause.cause.failed))

pub returns-in-Err-clause-moments : goal.returns-in-Err-clause-moments
returns-in-Err-clause-moments g c =
    rw c.into_disk-in-Err.ensures
    (λ told.
    let old = g.D.Disk.history c.args.slots.disk in
    let first = c.in-Ok.ensures in
    went-wider (λ before. LeavesBlankOr (marks_alone c.in-Ok.parts.marks)) (LeavesOpening c.args.asked.now) old (g.D.Disk.history c.format_slots.new.slots.disk)
    (λ state leaves. blank-leaves c.image_stands_for_one_meaning.ensures.blank c.args.asked.now old.now state c.in-Ok.parts.marks (c.requires.opened told).1 first.marks leaves)
    (c.format_slots.ensures.moments told))
