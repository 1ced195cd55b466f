use Rattle.std.proofs.Common.{◌≡◌, take, length}
use Rattle.std.specs.Prelude.{Ok}
use Rattle.era_tools.specs.BackupTool.{CopiesBlocks}
use Rattle.era_tools.proofs.copying.copy_blocks.Given as goal

-- those so far were copied
abbrev pub invariant-loop-block : goal.invariant-loop-block
invariant-loop-block g l =
    CopiesBlocks {T = Unit {0}} g.D.Disk l.geometry.sectors l.geometry.block_sectors (take l.block-index l.blocks) l.initial.disk l.disk
    (g.K.Sink.given l.initial.sink) (g.K.Sink.given l.sink) l.initial.text l.text (Ok tt)
    × (length l.room ≡ 65536) × (g.K.Sink.faults l.sink ≡ g.K.Sink.faults l.initial.sink)
