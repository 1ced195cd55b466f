use Rattle.std.proofs.Common.{◌+◌, ◌*◌, ℕ, List, take, drop, Option, sym, ◌∙◌, ap}
use Rattle.era_base.specs.Bytes.{part}
use Rattle.era_base.specs.Disk.{Place}
use Rattle.era_disks.specs.Rows.{bytes_of}
use Rattle.era_disks.specs.Devices.{device_reads, device_state}
use Rattle.era_disks.specs.declared.device.Device.{Device}
use Rattle.era_disks.proofs.BayReads.{part-told}
use Rattle.era_disks.proofs.mem_bay.MemBay.open_at.Goals as goal

pub returns-in-Ok-clause-content : goal.returns-in-Ok-clause-content
returns-in-Ok-clause-content c = λ sector below bytes told.
    let whole = c.requires.found.device.state in
    let is = c.in-Ok.ensures.anew.part whole (ap device_state c.requires.found.found) in
    let first = ap (λ (p : Place). p.first) c.in-Ok.ensures.place in
    let rows = is.rows
    ∙ ap (λ (n : ℕ). take n (drop c.in-Ok.disk.first whole.rows.items)) c.in-Ok.ensures.size
    ∙ ap (λ (n : ℕ). take c.args.sectors (drop n whole.rows.items)) first in
    ap (λ (rs : List (List ℕ)). part (sector * 512) 512 (bytes_of rs)) rows
    ∙ part-told c.requires.found.device.state.rows.items c.args.first c.args.sectors sector bytes c.requires.fits below
    (sym (ap (λ (d : Option Device). device_reads d (c.args.first + sector)) c.requires.found.found) ∙ told)
