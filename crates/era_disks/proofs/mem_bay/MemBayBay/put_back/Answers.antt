use Rattle.std.proofs.Common.{Vec, Global, ◌∙◌, ap}
use Rattle.era_disks.specs.Devices.{device_of, device_state}
use Rattle.era_disks.specs.declared.device.Device.{Device}
use Rattle.era_disks.proofs.mem_bay.MemBayBay.put_back.Goals as goal

-- the end of the loan leaves the devices
pub returns-clause-taken : goal.returns-clause-taken
returns-clause-taken c =
    let taken = c.take_in.ensures.taken in
    let same = c.end_loan.ensures.rest.0 in
    record {
      part = λ before told.
          taken.part before (ap (λ (ds : Vec Device Global). device_state (device_of ds.items c.args.disk.device)) same ∙ told);
      others = λ other apart.
          taken.others other apart ∙ ap (λ (ds : Vec Device Global). device_state (device_of ds.items other)) same;
    }
