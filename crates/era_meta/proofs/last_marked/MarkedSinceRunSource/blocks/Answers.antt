use Rattle.era_meta.proofs.LastEras.{not-since}
use Rattle.era_meta.proofs.last_marked.MarkedSinceRunSource.blocks.Goals as goal

pub returns-clause-past : goal.returns-clause-past
returns-clause-past c = λ block past. not-since c.args.self.now.marks.now c.args.self.now.era block c.are_valid.ensures past
