use Rattle.std.proofs.Common.{rules}
use Rattle.era_text.specs.Taking.{head_of}
use Rattle.era_text.proofs.DumpSteps.{ends-next, fails-next, goes-next, refused-next}
use Rattle.era_text.proofs.dump_reader.read_next.Goals as goal

pub returns-in_err-next_line-clause-told : goal.returns-in_err-next_line-clause-told
returns-in_err-next_line-clause-told g c = λ text ahead.
    let fails = fails-next (head_of c.args.head.now) c.args.count text c.args.reading.now (g.S.Source.left c.next_line.new.source)
    c.in_err-next_line.field-0.0 (c.in_err-next_line.ensures.told text ahead) in
    search (rules, fails)

pub returns-then-not-branch-clause-told : goal.returns-then-not-branch-clause-told
returns-then-not-branch-clause-told g c = λ text ahead.
    let told = rw c.if-not-branch.true at (c.in_ok-next_line.ensures.told text ahead) in
    ends-next (head_of c.args.head.now) c.args.count text c.next_line.new.lines c.args.reading.now (g.S.Source.left c.next_line.new.source)
    c.finish.result told.0 told.1 c.finish.ensures

pub returns-in-Ok-clause-told : goal.returns-in-Ok-clause-told
returns-in-Ok-clause-told g c = λ text ahead.
    goes-next (head_of c.args.head.now) c.args.count text c.next_line.new.line.items c.next_line.new.lines c.args.reading.now c.take_line.new.self
    (g.S.Source.left c.next_line.new.source)
    (rw c.if-not-branch.false at (c.in_ok-next_line.ensures.told text ahead))
    (rw c.deref.ensures.value at c.in-Ok.ensures)

pub returns-in-Err-clause-told : goal.returns-in-Err-clause-told
returns-in-Err-clause-told g c = λ text ahead.
    rw c.end_at.ensures
    (refused-next (head_of c.args.head.now) c.args.count text c.next_line.new.line.items c.next_line.new.lines c.args.reading.now
    (g.S.Source.left c.next_line.new.source) c.in-Err.fault
    (rw c.if-not-branch.false at (c.in_ok-next_line.ensures.told text ahead))
    (rw c.deref.ensures.value at c.in-Err.ensures))
