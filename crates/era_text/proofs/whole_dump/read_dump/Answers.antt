use Rattle.std.proofs.Common.{refl, rules}
use Rattle.era_text.specs.Taking.{head_of}
use Rattle.era_text.proofs.RestSteps.{ahead-first, fails-behind, leaves-then, whole-behind}
use Rattle.era_text.proofs.whole_dump.read_dump.Goals as goal

-- the first line wasn't taken
pub returns-in_err-head-clause-told : goal.returns-in_err-head-clause-told
returns-in_err-head-clause-told g c = λ text told.
    let fails = c.in_err-head.ensures.told text (ahead-first c.new-lines.result (g.S.Source.left c.args.source.now) text c.new-lines.ensures told) in
    search (rules, fails)

-- one of the others wasn't
pub returns-in_err-reading-clause-told : goal.returns-in_err-reading-clause-told
returns-in_err-reading-clause-told g c = λ text told.
    let begun = c.in_ok-head.ensures.told text (ahead-first c.new-lines.result (g.S.Source.left c.args.source.now) text c.new-lines.ensures told) in
    let fails = fails-behind text (head_of c.in_ok-head.head) c.read_head.new.lines (g.S.Source.left c.read_head.new.source)
    (g.S.Source.left c.read_rest.new.source) c.in_err-reading.field-0.0 begun c.in_err-reading.ensures.told in
    search (rules, fails)

pub returns-in_err-reading-clause-leaves : goal.returns-in_err-reading-clause-leaves
returns-in_err-reading-clause-leaves g c =
    leaves-then (g.S.Source.left c.args.source.now) (g.S.Source.left c.read_head.new.source) (g.S.Source.left c.read_rest.new.source)
    c.in_ok-head.ensures.leaves c.in_err-reading.ensures.leaves

-- the text has ended
pub returns-clause-told : goal.returns-clause-told
returns-clause-told g c = λ text told.
    let begun = c.in_ok-head.ensures.told text (ahead-first c.new-lines.result (g.S.Source.left c.args.source.now) text c.new-lines.ensures told) in
    let whole = whole-behind text (head_of c.in_ok-head.head) c.in_ok-reading.reading c.read_head.new.lines (g.S.Source.left c.read_head.new.source)
    (g.S.Source.left c.read_rest.new.source) begun c.in_ok-reading.ensures.told in
    record {
      read = record { head = head_of c.in_ok-head.head; reading = c.in_ok-reading.reading; whole = whole.0; same = refl };
      none = whole.1;
    }

pub returns-clause-leaves : goal.returns-clause-leaves
returns-clause-leaves g c =
    leaves-then (g.S.Source.left c.args.source.now) (g.S.Source.left c.read_head.new.source) (g.S.Source.left c.read_rest.new.source)
    c.in_ok-head.ensures.leaves c.in_ok-reading.ensures.leaves
