use Rattle.std.proofs.Common.{inr, arith}
use Rattle.era_base.specs.CrashModel.{SameBut}
use Rattle.era_base.proofs.Moments.{went-now}
use Rattle.era_meta.specs.Formatting.{marks_alone}
use Rattle.era_meta.proofs.FormatsKept.{blank-before, format-leaves, quiet-leaves}
use Rattle.era_meta.proofs.formats.format_disk.Goals as goal

-- the slots weren't opened blank
pub returns-in-Err-clause-moments : goal.returns-in-Err-clause-moments
returns-in-Err-clause-moments g c = λ told. quiet-leaves (marks_alone c.args.parts.marks) _ _ (c.in-Err.ensures.moments told)

-- all was stored
pub returns-in-Ok-format_slots-clause-moments : goal.returns-in-Ok-format_slots-clause-moments
returns-in-Ok-format_slots-clause-moments g c = rw c.joined.ensures (λ told.
    format-leaves (marks_alone c.args.parts.marks) (g.D.Disk.history c.args.disk) (g.D.Disk.history c.in-Ok.slots.disk) (g.D.Disk.history c.format_slots.new.slots.disk)
    (c.in-Ok.ensures.moments told) (c.in-Ok.ensures.ok.seen told).1 (c.format_slots.ensures.moments told))

pub returns-in-Ok-format_slots-clause-ok : goal.returns-in-Ok-format_slots-clause-ok
returns-in-Ok-format_slots-clause-ok g c = rw c.joined.ensures (record {
  formatted = c.in-Ok-format_slots.ensures.ok.0;
  blank = λ told. blank-before (g.D.Disk.history c.args.disk).now (g.D.Disk.history c.in-Ok.slots.disk).now (went-now (SameBut 0 0) _ _ (c.in-Ok.ensures.moments told))
      (c.in-Ok.ensures.ok.seen told).1;
  calls = λ told. let one = c.in-Ok.ensures.ok.calls told in let two = c.in-Ok-format_slots.ensures.ok.1 told in omega arith;
})

-- a write or a sync failed
pub returns-in-Err-format_slots-clause-moments : goal.returns-in-Err-format_slots-clause-moments
returns-in-Err-format_slots-clause-moments g c = rw c.into_disk.ensures (λ told.
    format-leaves (marks_alone c.args.parts.marks) (g.D.Disk.history c.args.disk) (g.D.Disk.history c.in-Ok.slots.disk) (g.D.Disk.history c.format_slots.new.slots.disk)
    (c.in-Ok.ensures.moments told) (c.in-Ok.ensures.ok.seen told).1 (c.format_slots.ensures.moments told))

pub returns-in-Err-format_slots-clause-refused : goal.returns-in-Err-format_slots-clause-refused
returns-in-Err-format_slots-clause-refused g c = rw c.into_disk.ensures (λ told. inr (
  blank-before (g.D.Disk.history c.args.disk).now (g.D.Disk.history c.in-Ok.slots.disk).now (went-now (SameBut 0 0) _ _ (c.in-Ok.ensures.moments told))
      (c.in-Ok.ensures.ok.seen told).1,
  let one = c.in-Ok.ensures.ok.calls told in let later = (c.format_slots.ensures.moments told).continues.later in omega arith,
))
