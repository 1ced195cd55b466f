use Rattle.std.proofs.Common.{rules}
use Rattle.era_text.specs.Taking.{head_of}
use Rattle.era_text.proofs.reading.Reading.take_line.Goals as goal

pub returns-in-Heading : goal.returns-in-Heading
returns-in-Heading c = let taken = c.take_heading.ensures (head_of c.args.head.now) in search (rules, taken)
