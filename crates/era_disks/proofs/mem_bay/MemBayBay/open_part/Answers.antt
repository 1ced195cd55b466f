use Rattle.std.proofs.Common.{length, refl, ap}
use Rattle.era_disks.specs.Devices.{device_size}
use Rattle.era_disks.proofs.FirstDevice.{found-along}
use Rattle.era_disks.proofs.mem_bay.MemBayBay.open_part.Goals as goal

pub open_at-requires : goal.open_at-requires
open_at-requires c =
    let found = found-along c.as_slice.result.now c.args.self.now.devices.items c.args.name.now c.args.name.now c.in-Some.index
    c.as_slice.ensures.value refl c.in-Some.ensures.some in
    record { found = found; fits = c.requires (length found.device.state.rows.items) (ap device_size found.found) }
