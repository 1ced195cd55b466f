use Rattle.era_text.proofs.Gives.{adds-then, cut-first}
use Rattle.era_tools.specs.ToolLines.{block_count, blocks_line, run_lines}
use Rattle.era_tools.proofs.block_lines.give_blocks.Goals as goal

-- the sink failed at the number
pub returns-in_default-clause-added : goal.returns-in_default-clause-added
returns-in_default-clause-added g c =
    cut-first (g.K.Sink.given c.args.sink.now) (g.K.Sink.given c.give_parts.new.sink) c.args.text.now
    (blocks_line (block_count c.args.runs.now)) (run_lines c.args.runs.now) (rw c.count_blocks-count.ensures at c.in_default.ensures.added)

-- the runs stand behind it
pub returns-clause-added : goal.returns-clause-added
returns-clause-added g c =
    adds-then (g.K.Sink.given c.args.sink.now) (g.K.Sink.given c.give_parts.new.sink) (g.K.Sink.given c.give_runs.new.sink)
    c.args.text.now c.give_parts.new.text c.give_runs.new.text (blocks_line (block_count c.args.runs.now)) (run_lines c.args.runs.now)
    c.give_runs.result (rw c.count_blocks-count.ensures at c.in-Ok.ensures.added) c.give_runs.ensures.added
