use Rattle.std.proofs.Common.{length, refl, ◌∙◌, ap}
use Rattle.era_disks.specs.Rows.{bytes_of}
use Rattle.era_disks.specs.Devices.{device_size}
use Rattle.era_disks.specs.declared.device.Device.{Device}
use Rattle.era_disks.proofs.BayReads.{held-content}
use Rattle.era_disks.proofs.FirstDevice.{found-along, found-device}
use Rattle.era_disks.proofs.mem_bay.MemBay.content.Goals as goal

pub returns-in_ok-content-in-Some-clause-held : goal.returns-in_ok-content-in-Some-clause-held
returns-in_ok-content-in-Some-clause-held c =
    let devices = c.args.self.now.devices.items in
    let name = c.args.name.now in
    let found = found-along c.as_slice.result.now devices name name c.in-Some.index c.as_slice.ensures.value refl c.in-Some.ensures.some in
    let here = found-device devices name c.in-Some.index found c.index.result.now c.index.ensures in (
      length found.device.state.rows.items,
      ap device_size found.found,
      held-content devices name found.device (length found.device.state.rows.items) c.in_ok-content-in-Some.field-0 found.found refl
          (c.in_ok-content-in-Some.ensures ∙ ap (λ (d : Device). bytes_of d.state.rows.items) here),
    )
