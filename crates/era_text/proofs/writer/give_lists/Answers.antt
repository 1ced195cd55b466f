use Rattle.std.proofs.Common.{◌++◌}
use Rattle.std.specs.Prelude.{codes}
use Rattle.era_text.specs.DumpLines.{era_run_line, head_line}
use Rattle.era_text.specs.Pieces.{current_text, ended, lines_text_of, sets_text}
use Rattle.era_text.proofs.Gives.{adds-then, cut-first, cut-then}
use Rattle.era_text.proofs.writer.give_lists.Goals as goal

-- the sink failed at the first lines
pub returns-in_default-clause-added : goal.returns-in_default-clause-added
returns-in_default-clause-added g c =
    let head = c.args.head in
    cut-first (g.K.Sink.given c.args.sink.now) (g.K.Sink.given c.give_head.new.sink) c.args.text.now
    (ended (head_line head.0.now.sectors head.0.now.block_sectors head.1) ++ codes "array\n")
    (lines_text_of era_run_line c.args.array.now ++ (sets_text c.args.archive.now ++ current_text c.args.current.now)) c.in_default.ensures.added

-- at the array
pub returns-in_default-give_array-clause-added : goal.returns-in_default-give_array-clause-added
returns-in_default-give_array-clause-added g c =
    let head = c.args.head in
    let one = g.K.Sink.given c.give_head.new.sink in
    let two = g.K.Sink.given c.give_array.new.sink in
    cut-then (g.K.Sink.given c.args.sink.now) one two c.args.text.now c.give_head.new.text
    (ended (head_line head.0.now.sectors head.0.now.block_sectors head.1) ++ codes "array\n")
    (lines_text_of era_run_line c.args.array.now ++ (sets_text c.args.archive.now ++ current_text c.args.current.now)) c.in-Ok.ensures.added
    (cut-first one two c.give_head.new.text (lines_text_of era_run_line c.args.array.now) (sets_text c.args.archive.now ++ current_text c.args.current.now)
    c.in_default-give_array.ensures.added)

-- at the archived sets
pub returns-in_default-give_sets-clause-added : goal.returns-in_default-give_sets-clause-added
returns-in_default-give_sets-clause-added g c =
    let head = c.args.head in
    let one = g.K.Sink.given c.give_head.new.sink in
    let two = g.K.Sink.given c.give_array.new.sink in
    let three = g.K.Sink.given c.give_sets.new.sink in
    cut-then (g.K.Sink.given c.args.sink.now) one three c.args.text.now c.give_head.new.text
    (ended (head_line head.0.now.sectors head.0.now.block_sectors head.1) ++ codes "array\n")
    (lines_text_of era_run_line c.args.array.now ++ (sets_text c.args.archive.now ++ current_text c.args.current.now)) c.in-Ok.ensures.added
    (cut-then one two three c.give_head.new.text c.give_array.new.text (lines_text_of era_run_line c.args.array.now)
    (sets_text c.args.archive.now ++ current_text c.args.current.now) c.in-Ok-give_array.ensures.added
    (cut-first two three c.give_array.new.text (sets_text c.args.archive.now) (current_text c.args.current.now) c.in_default-give_sets.ensures.added))

-- all of them
pub returns-clause-added : goal.returns-clause-added
returns-clause-added g c =
    let head = c.args.head in
    let one = g.K.Sink.given c.give_head.new.sink in
    let two = g.K.Sink.given c.give_array.new.sink in
    let three = g.K.Sink.given c.give_sets.new.sink in
    let all = g.K.Sink.given c.give_current.new.sink in
    adds-then (g.K.Sink.given c.args.sink.now) one all c.args.text.now c.give_head.new.text c.give_current.new.text
    (ended (head_line head.0.now.sectors head.0.now.block_sectors head.1) ++ codes "array\n")
    (lines_text_of era_run_line c.args.array.now ++ (sets_text c.args.archive.now ++ current_text c.args.current.now)) c.give_current.result c.in-Ok.ensures.added
    (adds-then one two all c.give_head.new.text c.give_array.new.text c.give_current.new.text (lines_text_of era_run_line c.args.array.now)
    (sets_text c.args.archive.now ++ current_text c.args.current.now) c.give_current.result c.in-Ok-give_array.ensures.added
    (adds-then two three all c.give_array.new.text c.give_sets.new.text c.give_current.new.text (sets_text c.args.archive.now) (current_text c.args.current.now)
    c.give_current.result c.in-Ok-give_sets.ensures.added c.give_current.ensures.added))
