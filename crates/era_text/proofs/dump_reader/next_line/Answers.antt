use Rattle.std.proofs.Common.{refl}
use Rattle.era_text.proofs.dump_reader.next_line.Goals as goal

pub returns-in-Ok-Line-clause-told : goal.returns-in-Ok-Line-clause-told
returns-in-Ok-Line-clause-told g c = λ text ahead. rw c.in-Ok-Line.field-0-is at (c.in-Ok-Line.ensures.told text ahead)

pub returns-in-Ok-Long-clause-told : goal.returns-in-Ok-Long-clause-told
returns-in-Ok-Long-clause-told g c = λ text ahead. (refl, refl, rw c.in-Ok-Long.field-0-is at (c.in-Ok-Long.ensures.told text ahead))

pub returns-in-Ok-End-clause-told : goal.returns-in-Ok-End-clause-told
returns-in-Ok-End-clause-told g c = λ text ahead. rw c.in-Ok-End.field-0-is at (c.in-Ok-End.ensures.told text ahead)

pub returns-in-Err-Source-clause-told : goal.returns-in-Err-Source-clause-told
returns-in-Err-Source-clause-told g c = λ text ahead. rw c.in-Err-Source.field-0-is at (c.in-Err-Source.ensures.told text ahead)
