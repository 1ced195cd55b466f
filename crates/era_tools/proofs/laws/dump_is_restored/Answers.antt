use Rattle.std.proofs.Common.{◌≡◌, sym, ◌∙◌}
use Rattle.era_line.specs.Lines.{lines_of}
use Rattle.era_text.specs.Grammar.{RefusedAt, Whole}
use Rattle.era_tools.proofs.laws.dump_is_restored.Goals as goal

-- the marks of a dump
pub returns-clause-whole : goal.returns-clause-whole
returns-clause-whole c = λ m marks text source image valid dump left read.
    c.lines_are_read_one_way.ensures (lines_of text) m marks (c.dump_reads_back.ensures m text image valid dump) (read.told text left).read

-- the marks of a logical dump
pub returns-clause-logical : goal.returns-clause-logical
returns-clause-logical c = λ m marks text source image valid dump left read.
    c.lines_are_read_one_way.ensures (lines_of text) _ marks (c.logical_dump_reads_back.ensures m text image valid dump) (read.told text left).read

-- no line is refused
pub returns-clause-taken : goal.returns-clause-taken
returns-clause-taken c = λ m text source line kind image valid dump left unread.
    let back = c.dump_reads_back.ensures m text image valid dump in
    let e : Whole back.head back.reading ≡ RefusedAt line kind = sym back.whole ∙ unread.told text left in
    absurd (cc)
