use Rattle.std.proofs.Common.{◌∙◌, rules, arith}
use Rattle.era_text.specs.Taking.{head_of}
use Rattle.era_text.proofs.RestSteps.{comes-fails, comes-line, comes-whole, leaves-then, underway-limit, underway-line, underway-smaller, underway-valid}
use Rattle.era_text.proofs.whole_dump.read_rest.Goals as goal

-- the lines that are taken have an end
pub read_next-requires : goal.read_next-requires
read_next-requires g c =
    let limit = underway-limit (head_of c.args.head.now) c.loop-reading.count c.loop-reading.reading c.requires c.loop-reading.invariant.underway in omega arith

pub overflow_add-count : goal.overflow_add-count
overflow_add-count g c =
    let limit = underway-limit (head_of c.args.head.now) c.loop-reading.count c.loop-reading.reading c.requires c.loop-reading.invariant.underway in omega arith

pub loop-reading-smaller : goal.loop-reading-smaller
loop-reading-smaller g c =
    let taken = rw c.if-branch.true at c.in_ok-read_next.ensures.taken in
    underway-smaller (head_of c.args.head.now) c.loop-reading.count c.loop-reading.reading c.read_next.new.reading taken.0 c.requires
    c.loop-reading.invariant.underway taken.1

-- a line more was taken
pub loop-reading-preserved : goal.loop-reading-preserved
loop-reading-preserved g c =
    let head = head_of c.args.head.now in
    let taken = rw c.if-branch.true at c.in_ok-read_next.ensures.taken in
    record {
      comes = λ text ahead. comes-line head text c.loop-reading.count c.loop-reading.reading c.read_next.new.reading c.loop-reading.lines c.read_next.new.lines
          (g.S.Source.left c.loop-reading.source) (g.S.Source.left c.read_next.new.source) (c.loop-reading.invariant.comes text ahead)
          (λ rest ahead. rw c.if-branch.true at (c.in_ok-read_next.ensures.told rest ahead));
      underway = underway-line head c.loop-reading.count c.loop-reading.reading c.read_next.new.reading taken.0 c.requires c.loop-reading.invariant.underway taken.1;
      leaves = leaves-then (g.S.Source.left c.args.source.now) (g.S.Source.left c.loop-reading.source) (g.S.Source.left c.read_next.new.source)
          c.loop-reading.invariant.leaves c.in_ok-read_next.ensures.leaves;
      kept = c.in_ok-read_next.ensures.cause ∙ c.loop-reading.invariant.kept;
    }

-- a line wasn't taken
pub returns-in_err-read_next-clause-told : goal.returns-in_err-read_next-clause-told
returns-in_err-read_next-clause-told g c = λ text ahead.
    let fails = comes-fails (head_of c.args.head.now) text c.loop-reading.count c.loop-reading.reading c.loop-reading.lines
    (g.S.Source.left c.loop-reading.source) (g.S.Source.left c.read_next.new.source) c.in_err-read_next.field-0.0
    (c.loop-reading.invariant.comes text ahead) c.in_err-read_next.ensures.told in
    search (rules, fails)

pub returns-in_err-read_next-clause-leaves : goal.returns-in_err-read_next-clause-leaves
returns-in_err-read_next-clause-leaves g c =
    leaves-then (g.S.Source.left c.args.source.now) (g.S.Source.left c.loop-reading.source) (g.S.Source.left c.read_next.new.source)
    c.loop-reading.invariant.leaves c.in_err-read_next.ensures.leaves

-- the text has ended
pub returns-clause-told : goal.returns-clause-told
returns-clause-told g c = λ text ahead.
    comes-whole (head_of c.args.head.now) text c.loop-reading.count c.loop-reading.reading c.read_next.new.reading c.loop-reading.lines
    (g.S.Source.left c.loop-reading.source) (g.S.Source.left c.read_next.new.source) (c.loop-reading.invariant.comes text ahead)
    (λ rest ahead. rw c.if-branch.false at (c.in_ok-read_next.ensures.told rest ahead))

pub returns-clause-valid : goal.returns-clause-valid
returns-clause-valid g c =
    let taken = rw c.if-branch.false at c.in_ok-read_next.ensures.taken in
    underway-valid (head_of c.args.head.now) c.loop-reading.count c.loop-reading.reading c.read_next.new.reading c.requires
    c.loop-reading.invariant.underway taken.0 taken.1

pub returns-clause-leaves : goal.returns-clause-leaves
returns-clause-leaves g c =
    leaves-then (g.S.Source.left c.args.source.now) (g.S.Source.left c.loop-reading.source) (g.S.Source.left c.read_next.new.source)
    c.loop-reading.invariant.leaves c.in_ok-read_next.ensures.leaves
