use Rattle.std.proofs.Common.{length, arith, refl}
use Rattle.era_line.proofs.Taken.{EndsLine-cut}
use Rattle.era_line.proofs.reader.LineReader.move_to.Goals as goal

pub returns-clause-moved : goal.returns-clause-moved
returns-clause-moved c =
    EndsLine-cut c.self.inside.buffer.items c.self.inside.start c.self.inside.end (length c.in-Some.part.now) c.args.line.now.items
    c.extend_from_slice.new.self.items c.args.self.now c.taken.result.now c.in-Some.part.now c.in-Some.field-0-1.now (omega arith)
    c.self.view_is c.taken.ensures refl c.in-Some.ensures.some c.in_ok-extend_from_slice.ensures.items
