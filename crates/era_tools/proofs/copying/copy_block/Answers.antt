use Rattle.std.proofs.Common.{◌≡◌, ◌≤◌, ℕ, ◌*◌, ◌-◌, min, ap, length, ◌∙◌, arith}
use Rattle.std.proofs.lemmas.List.{length-take-le}
use Rattle.era_tools.proofs.Copies.{copies-one}
use Rattle.era_tools.proofs.copying.copy_block.Goals as goal

-- the block was copied
pub returns-clause-copied : goal.returns-clause-copied
returns-clause-copied g c =
    let size : c.span-first.result.1 ≡ min c.args.geometry.now.block_sectors (c.args.geometry.now.sectors - c.args.block * c.args.geometry.now.block_sectors) =
    ap (λ (span : ℕ × ℕ). span.1) c.span-first.ensures.value in
    let most = c.args.geometry.now.block_size.greatest in
    let fits : c.span-first.result.1 * 512 ≤ length c.args.room.now = omega (arith, size, most, c.requires.room) in
    copies-one g.row.D.Denot g.D.Disk c.args.geometry.now.sectors c.args.geometry.now.block_sectors c.args.block _ _ c.args.disk.now c.copy_sectors.new.disk
    (g.K.Sink.given c.args.sink.now) (g.K.Sink.given c.copy_sectors.new.sink) c.args.text.now c.copy_sectors.new.text c.copy_sectors.result
    (ap (λ (span : ℕ × ℕ). span.0) c.span-first.ensures.value) (length-take-le (c.span-first.result.1 * 512) c.args.room.now fits ∙ ap (λ (span : ℕ × ℕ). span.1 * 512) c.span-first.ensures.value) c.copy_sectors.ensures.copied
