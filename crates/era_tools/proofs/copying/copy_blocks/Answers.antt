use Rattle.std.proofs.Common.{refl, sym, subst, ◌++◌, ◌∙◌, take, drop, ◌+◌, ap}
use Rattle.std.specs.Prelude.{Ok, Err}
use Rattle.std.proofs.lemmas.List.{take_more}
use Rattle.era_tools.specs.BackupTool.{CopiesBlocks}
use Rattle.era_tools.proofs.Copies.{copies-longer, copies-none, copies-then, front-rest}
use Rattle.era_tools.proofs.copying.copy_blocks.Goals as goal

-- none was copied at first
pub loop-block-init : goal.loop-block-init
loop-block-init g c = (
  copies-none g.row.D.Denot g.D.Disk c.args.geometry.now.sectors c.args.geometry.now.block_sectors c.args.disk.now (g.K.Sink.given c.args.sink.now) c.args.text.now,
  c.requires.room,
  refl,
)

-- one failed
pub returns-in-Err-clause-copied : goal.returns-in-Err-clause-copied
returns-in-Err-clause-copied g c =
    let sectors = c.args.geometry.now.sectors in
    let block_sectors = c.args.geometry.now.block_sectors in
    let blocks = c.args.blocks.now in
    let i = c.loop-block.block-index in
    let before = g.K.Sink.given c.args.sink.now in
    let now = g.K.Sink.given c.copy_block.new.sink in
    subst (λ listed. CopiesBlocks {T = Unit {0}} g.D.Disk sectors block_sectors listed c.args.disk.now c.copy_block.new.disk before now c.args.text.now c.copy_block.new.text (Err c.in-Err.error))
    (ap (λ front. front ++ drop (i + 1) blocks) (sym (take_more blocks i 0 c.loop-block-test.true)) ∙ front-rest blocks (i + 1))
    (copies-longer g.row.D.Denot g.D.Disk sectors block_sectors _ (drop (i + 1) blocks) c.args.disk.now c.copy_block.new.disk before now c.args.text.now c.copy_block.new.text c.in-Err.error
    (copies-then g.row.D.Denot g.D.Disk sectors block_sectors (take i blocks) _ c.args.disk.now c.loop-block.disk c.copy_block.new.disk before (g.K.Sink.given c.loop-block.sink) now
    c.args.text.now c.loop-block.text c.copy_block.new.text (Err c.in-Err.error) c.loop-block.invariant.0 c.in-Err.ensures.copied))

-- one more was copied
pub loop-block-preserved : goal.loop-block-preserved
loop-block-preserved g c =
    let sectors = c.args.geometry.now.sectors in
    let block_sectors = c.args.geometry.now.block_sectors in
    let blocks = c.args.blocks.now in
    let i = c.loop-block.block-index in
    let before = g.K.Sink.given c.args.sink.now in
    let now = g.K.Sink.given c.copy_block.new.sink in (
      subst (λ listed. CopiesBlocks {T = Unit {0}} g.D.Disk sectors block_sectors listed c.args.disk.now c.copy_block.new.disk before now c.args.text.now c.copy_block.new.text (Ok tt))
          (sym (take_more blocks i 0 c.loop-block-test.true))
          (copies-then g.row.D.Denot g.D.Disk sectors block_sectors (take i blocks) _ c.args.disk.now c.loop-block.disk c.copy_block.new.disk before (g.K.Sink.given c.loop-block.sink) now
          c.args.text.now c.loop-block.text c.copy_block.new.text (Ok tt) c.loop-block.invariant.0 c.in-Ok.ensures.copied),
      c.copy_block.ensures.room,
      c.in-Ok.ensures.sink.kept (λ e. absurd (cc)) ∙ c.loop-block.invariant.2,
    )
