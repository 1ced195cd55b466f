use Rattle.std.proofs.lemmas.Result.{err_from_is_err_and}
use Rattle.era_plan.proofs.RefusedLines.{step-cause, step-fails, step-fails-read, step-long, step-reads}
use Rattle.era_plan.proofs.Sayable.{sayable-is}
use Rattle.era_plan.proofs.rounds.read_step.Goals as goal

-- no line could be read
pub returns-in_err-next-clause-fails : goal.returns-in_err-next-clause-fails
returns-in_err-next-clause-fails g c = λ now text stands ahead.
    let p = err_from_is_err_and c.from_residual.result c.from_residual.ensures.1 in
    rw (p.1, p.2) (step-fails-read now text (g.S.Source.left c.next.new.source) c.in_err-next.field-0.0 (c.in_err-next.ensures.told text ahead))

-- a line was read
pub take_says-requires : goal.take_says-requires
take_says-requires g c =
    sayable-is c.next.new.line.items c.in_ok-says-in-Line.says (rw c.deref.ensures.value at c.in_ok-says-in-Line.ensures)

pub returns-in_ok-says-in-Line-clause-reads : goal.returns-in_ok-says-in-Line-clause-reads
returns-in_ok-says-in-Line-clause-reads g c = λ text ahead.
    let reads = rw c.in-Line.is at c.in_ok-next.ensures.told in
    step-reads text c.next.new.line.items c.next.new.self (g.S.Source.left c.next.new.source) c.take_says.result c.take_says.ensures.some (reads text ahead)

pub returns-in_ok-says-in-Line-clause-fails : goal.returns-in_ok-says-in-Line-clause-fails
returns-in_ok-says-in-Line-clause-fails g c = λ now text stands ahead.
    let reads = rw c.in-Line.is at c.in_ok-next.ensures.told in
    step-fails now text c.next.new.line.items c.next.new.self (g.S.Source.left c.next.new.source) c.in_ok-says-in-Line.says
    c.take_says.new.counts c.take_says.new.round c.take_says.result (rw c.deref.ensures.value at c.in_ok-says-in-Line.ensures)
    (reads text ahead) (c.take_says.ensures.takes now stands)

pub returns-in_ok-says-in-Line-clause-cause : goal.returns-in_ok-says-in-Line-clause-cause
returns-in_ok-says-in-Line-clause-cause g c = step-cause _ _ c.take_says.result c.take_says.ensures.own c.in_ok-next.ensures.cause

-- it is too long
pub returns-in-Long-clause-fails : goal.returns-in-Long-clause-fails
returns-in-Long-clause-fails g c = λ now text stands ahead.
    let begins = rw c.in-Long.is at c.in_ok-next.ensures.told in
    rw c.refusal.ensures (step-long now text (g.S.Source.left c.next.new.source) c.args.lines.now.counts.lines (begins text ahead) stands.read)

-- there is none
pub returns-in-End-clause-reads : goal.returns-in-End-clause-reads
returns-in-End-clause-reads g c = λ text ahead.
    let ends = rw c.in-End.is at c.in_ok-next.ensures.told in ends text ahead
