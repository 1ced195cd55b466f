use Rattle.std.proofs.Common.{◌≡◌, ◌++◌, take, drop}
use Rattle.era_core.specs.Present.{is_on_page}
use Rattle.era_model.specs.Marks.{transcribed}
use Rattle.era_core.proofs.block_table.transcribe.Given as goal

abbrev pub invariant-loop-block : goal.invariant-loop-block
invariant-loop-block l = l.entry-items ≡ transcribed l.set (is_on_page l.page) 0 (take l.block l.fn.array.items) ++ drop l.block l.fn.array.items
