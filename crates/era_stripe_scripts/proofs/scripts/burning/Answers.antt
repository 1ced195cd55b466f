use Rattle.std.proofs.Common.{ap, ◌∙◌}
use Rattle.era_base.specs.CrashModel.{History}
use Rattle.era_disks.specs.MemDisk.{state_of}
use Rattle.era_disks.specs.declared.mem_disk.MemDisk.{MemDisk}
use Rattle.era_stripe_scripts.proofs.scripts.burning.Goals as goal

pub returns-clause-blank : goal.returns-clause-blank
returns-clause-blank c =
    ap (λ (d : MemDisk). state_of d.state) c.in_ok-set_fuse.ensures.ok.1 ∙ ap (λ (h : History). h.now) c.in_ok-disk.ensures.zeros
