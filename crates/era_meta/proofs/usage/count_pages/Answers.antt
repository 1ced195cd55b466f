use Rattle.std.proofs.Common.{sym}
use Rattle.era_layout.specs.Root.{fields_of}
use Rattle.era_meta.proofs.Usages.{length-pages}
use Rattle.era_meta.proofs.usage.count_pages.Goals as goal

pub returns-clause-value : goal.returns-clause-value
returns-clause-value c = rw (c.array_pages.ensures, c.bit_pages.ensures, c.len.ensures) (sym (length-pages (fields_of c.args.root.now) c.requires))
