use Rattle.std.proofs.Common.{sym, ◌∙◌}
use Rattle.era_disks.specs.Devices.{has_name}
use Rattle.era_disks.proofs.FirstDevice.{find-none, found-at}
use Rattle.era_disks.proofs.device.find_device.Goals as goal

pub returns-in-Some-clause-some : goal.returns-in-Some-clause-some
returns-in-Some-clause-some c =
    found-at c.args.devices.now c.args.name.now c.in-Some.index (sym c.position_of.ensures ∙ c.in-Some.is)

pub returns-in-None-clause-none : goal.returns-in-None-clause-none
returns-in-None-clause-none c =
    find-none (has_name c.args.name.now) c.args.devices.now (sym c.position_of.ensures ∙ c.in-None.is)
