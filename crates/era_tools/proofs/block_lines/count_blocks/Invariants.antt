use Rattle.std.proofs.Common.{◌≡◌, take}
use Rattle.era_tools.specs.ToolLines.{block_count}
use Rattle.era_tools.proofs.block_lines.count_blocks.Given as goal

-- those so far were counted
abbrev pub invariant-loop-run : goal.invariant-loop-run
invariant-loop-run l = l.count ≡ block_count (take l.run-index l.runs)
