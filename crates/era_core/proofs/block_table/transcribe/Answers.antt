use Rattle.std.proofs.Common.{length, ap, arith}
use Rattle.era_core.specs.Present.{is_on_page}
use Rattle.era_core.proofs.Transcribing.{transcribed-next}
use Rattle.era_core.proofs.block_table.transcribe.Goals as goal

-- one more entry is transcribed
pub loop-block-preserved : goal.loop-block-preserved
loop-block-preserved c =
    transcribed-next c.args.set.now (is_on_page c.args.page) c.args.array.now.items c.loop-block.entry-items c.loop-block.block c.transcribe_entry.new.entry
    (omega arith) (omega (arith, ap length c.deref_mut-entry-items.ensures.value)) c.loop-block.invariant c.transcribe_entry.ensures
