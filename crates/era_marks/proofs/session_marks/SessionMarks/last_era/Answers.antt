use Rattle.std.proofs.Common.{◌≡◌, ◌<◌, length, get_or, ◌∙◌, ap, arith}
use Rattle.era_base.specs.Geometry.{blocks_of}
use Rattle.era_model.specs.Marks.{blocks_of_marks}
use Rattle.era_marks.proofs.SetLists.{archived-size, last_archived-more}
use Rattle.era_marks.proofs.session_marks.SessionMarks.last_era.Goals as goal

-- each set has a flag for the block
pub era_of-requires : goal.era_of-requires
era_of-requires c =
    let sets = c.self.inside.archive.items in
    let i = c.loop-set.set-index in
    let is : c.set-item.result ≡ get_or sets i c.set-item.result = rw c.deref-set-items.ensures.value at c.set-item.is in
    let within : i < length sets = omega (arith, c.loop-set-test.true, ap length c.deref-set-items.ensures.value) in
    let blocks = blocks_of c.self.inside.geometry.sectors c.self.inside.geometry.block_sectors in
    let size : length (get_or sets i c.set-item.result).blocks ≡ blocks =
    archived-size blocks 0 c.self.inside.era sets i c.set-item.result c.self.invariant.valid.archive within in
    let here : length c.set-item.result.blocks ≡ blocks = ap (λ set. length set.blocks) is ∙ size in
    let same : blocks ≡ blocks_of_marks c.args.self.now = ap blocks_of_marks c.self.view_is in
    omega (arith, here, same, c.requires)

-- one set more
pub loop-set-preserved : goal.loop-set-preserved
loop-set-preserved c =
    let sets = c.args.self.now.archive in
    let i = c.loop-set.set-index in
    let archive = ap (λ m. m.archive) c.self.view_is in
    let is : c.set-item.result ≡ get_or sets i c.set-item.result = rw (c.deref-set-items.ensures.value, archive) at c.set-item.is in
    let within : i < length sets = omega (arith, c.loop-set-test.true, ap length c.deref-set-items.ensures.value, ap length archive) in
    let more = rw (← is) at (last_archived-more sets i c.args.block c.set-item.result within) in
    omega (arith, more, c.loop-set.invariant, c.era_of.ensures, c.max-last.ensures)
