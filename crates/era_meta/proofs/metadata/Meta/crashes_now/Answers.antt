use Rattle.std.proofs.Common.{refl, inl, inr}
use Rattle.era_layout.specs.Root.{fields_of}
use Rattle.era_meta.specs.Held.{snapshot_root}
use Rattle.era_meta.specs.InMemory.{meaning_in}
use Rattle.era_meta.proofs.metadata.Meta.crashes_now.Goals as goal

pub returns : goal.returns
returns g c = λ told image is.
    let meta = c.args.self.now in
    let now = (g.D.Disk.history meta.slots.disk).now in
    elim (c.kept_disk_leaves_its_meanings.ensures meta.slots.target meta.slots.number meta.slots.may_be_open (fields_of meta.root) (snapshot_root meta.snapshot) now
    (c.requires told).keeps image is) [
      | inl stored ↦ (meaning_in now meta, inl refl, stored)
      | inr left ↦ (left.1.0, inr (left.0, left.1.1), left.1.2)
    ]
