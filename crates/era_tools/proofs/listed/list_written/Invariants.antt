use Rattle.std.proofs.Common.{◌≡◌}
use Rattle.std.specs.List.{filter}
use Rattle.era_layout.specs.Root.{numbers_from}
use Rattle.era_model.specs.Marks.{written_since}
use Rattle.era_tools.proofs.listed.list_written.Given as goal

-- those so far that were written
abbrev pub invariant-loop-block : goal.invariant-loop-block
invariant-loop-block l = l.blocks.items ≡ filter (written_since l.marks l.since) (numbers_from 0 l.block)
