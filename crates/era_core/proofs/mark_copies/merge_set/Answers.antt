use Rattle.std.proofs.Common.{◌≡◌, ◌<◌, true, length, ap, arith}
use Rattle.era_model.specs.MarkRuns.{flags_of_runs}
use Rattle.era_core.proofs.Tables.{flag-of}
use Rattle.era_core.proofs.Transcribing.{transcribed-next}
use Rattle.era_core.proofs.mark_copies.merge_set.Goals as goal

-- one more entry is transcribed
pub loop-block-preserved : goal.loop-block-preserved
loop-block-preserved c =
    let blocks = length c.args.entries.now.items in
    let size : length c.loop-block.entry-items ≡ blocks = omega (arith, ap length c.deref_mut-entry-items.ensures.value) in
    let lt : c.loop-block.block < blocks = omega (arith, ap length c.deref_mut-entry-items.ensures.value) in
    transcribed-next (record { era = c.args.set.now.era; blocks = flags_of_runs 0 blocks c.args.set.now.blocks }) (λ block. true) c.args.entries.now.items c.loop-block.entry-items
    c.loop-block.block c.merge_entry.new.entry (omega (arith, size)) size c.loop-block.invariant (rw (flag-of blocks c.args.set.now.blocks c.loop-block.block lt) c.merge_entry.ensures)
