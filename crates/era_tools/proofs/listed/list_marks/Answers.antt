use Rattle.std.proofs.Common.{◌<◌, ℕ, All, ap, ap₂, sym, ◌∙◌, subst}
use Rattle.era_base.specs.Geometry.{blocks_of}
use Rattle.era_base.specs.declared.geometry.Geometry.{Geometry}
use Rattle.era_tools.proofs.WrittenBlocks.{written-within}
use Rattle.era_tools.proofs.listed.list_marks.Goals as goal

-- each listed block is one of the origin
pub invariant_of-result : goal.invariant_of-result
invariant_of-result g c = record {
  within =
      subst (λ (blocks : ℕ). All (λ block. block < blocks) c.in_ok-blocks.blocks.items)
      (ap₂ (λ (sectors size : ℕ). blocks_of sectors size) (sym c.requires.sectors) (sym c.requires.block_sectors)
      ∙ ap (λ (geometry : Geometry). blocks_of geometry.sectors geometry.block_sectors) (sym c.geometry.ensures))
      (subst (All (λ block. block < blocks_of c.args.meta.now.marks.sectors c.args.meta.now.marks.block_sectors)) (sym c.in_ok-blocks.ensures)
      (written-within c.args.meta.now.marks c.args.since));
}
