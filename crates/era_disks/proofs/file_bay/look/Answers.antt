use Rattle.std.proofs.Common.{◌≡◌, None}
use Rattle.era_disks.specs.ImageFiles.{size_in}
use Rattle.era_disks.proofs.ImageSizes.{size_in-last, known-append}
use Rattle.era_disks.proofs.file_bay.look.Goals as goal

-- the device was opened and added
pub returns-clause-told : goal.returns-clause-told
returns-clause-told g c =
    let named : c.in_ok-device.device.name ≡ c.args.name.now = cc (c.in_ok-device.ensures.named, c.in_ok-from_text.ensures) in
    let unknown : size_in c.args.devices.now.items c.args.name.now ≡ None = cc (c.in_default.is, c.size_of.ensures) in
    rw c.in_ok-add.ensures.ok (size_in-last c.args.devices.now.items c.in_ok-device.device c.args.name.now named unknown)

pub returns-clause-known : goal.returns-clause-known
returns-clause-known g c = rw c.in_ok-add.ensures.ok (known-append c.args.devices.now.items _)
