use Rattle.std.proofs.Common.{rules}
use Rattle.era_text.specs.Taking.{head_of}
use Rattle.era_text.proofs.DumpSteps.{ends-head, fails-head, goes-head, refused-head}
use Rattle.era_text.proofs.ReadValid.{first-read}
use Rattle.era_text.proofs.dump_reader.read_head.Goals as goal

pub returns-in_err-next_line-clause-told : goal.returns-in_err-next_line-clause-told
returns-in_err-next_line-clause-told g c = λ text ahead.
    let fails = fails-head text (g.S.Source.left c.next_line.new.source) c.in_err-next_line.field-0.0 (c.in_err-next_line.ensures.told text ahead) in
    search (rules, fails)

pub returns-then-not-branch-clause-told : goal.returns-then-not-branch-clause-told
returns-then-not-branch-clause-told g c = λ text ahead.
    let told = rw c.if-not-branch.true at (c.in_ok-next_line.ensures.told text ahead) in
    ends-head text told.0

pub returns-in-Ok-clause-told : goal.returns-in-Ok-clause-told
returns-in-Ok-clause-told g c = λ text ahead.
    goes-head text c.next_line.new.line.items c.next_line.new.lines (g.S.Source.left c.next_line.new.source) (head_of c.in-Ok.head)
    (rw c.if-not-branch.false at (c.in_ok-next_line.ensures.told text ahead))
    (rw c.deref.ensures.value at c.in-Ok.ensures)

pub returns-in-Ok-clause-fit : goal.returns-in-Ok-clause-fit
returns-in-Ok-clause-fit g c = first-read c.next_line.new.line.items (head_of c.in-Ok.head) (rw c.deref.ensures.value at c.in-Ok.ensures)

pub returns-in-Err-clause-told : goal.returns-in-Err-clause-told
returns-in-Err-clause-told g c = λ text ahead.
    rw c.end_at.ensures
    (refused-head text c.next_line.new.line.items c.next_line.new.lines (g.S.Source.left c.next_line.new.source) c.in-Err.fault
    (rw c.if-not-branch.false at (c.in_ok-next_line.ensures.told text ahead))
    (rw c.deref.ensures.value at c.in-Err.ensures))
