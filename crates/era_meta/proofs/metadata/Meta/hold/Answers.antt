use Rattle.std.proofs.Common.{false, refl, ap, ◌∙◌}
use Rattle.era_layout.specs.Root.{RootFields}
use Rattle.era_meta.specs.HeldCalls.{with_flag}
use Rattle.era_meta.proofs.MetaTaken.{can-copy, held-fit}
use Rattle.era_meta.proofs.metadata.Meta.hold.Goals as goal

pub copy_root-requires : goal.copy_root-requires
copy_root-requires g c = can-copy g.D.Disk c.args.self.now c.release_lists.new.spare c.requires c.release_lists.ensures.spare

pub copy_from-requires : goal.copy_from-requires
copy_from-requires g c = (c.requires.snapshot.sectors ∙ c.requires.sectors, c.requires.snapshot.block_sectors ∙ c.requires.block_sectors)

pub returns-clause-fit : goal.returns-clause-fit
returns-clause-fit g c =
    held-fit g.D.Disk c.args.self.now c.release_lists.new.archive c.release_lists.new.spare c.copy_root.new.spare c.copy_root.new.root c.copy_from.new.self c.requires
    c.release_lists.ensures.spare c.copy_root.ensures.spare c.release_lists.ensures.archive c.copy_root.ensures.root c.copy_from.ensures

pub returns-clause-held : goal.returns-clause-held
returns-clause-held g c = record {
  held = refl;
  root_same = ap (λ (root : RootFields). with_flag root false) c.copy_root.ensures.root;
  marks_same = c.copy_from.ensures;
}
