use Rattle.std.proofs.Common.{◌≡◌, ◌*◌, ℕ, List, Option, Some, arith, ◌∙◌, ap}
use Rattle.std.proofs.lemmas.List.{length-replicate}
use Rattle.std.proofs.lemmas.Map.Text.{text_keys}
use Rattle.std.specs.BTreeMap.{get_by_text}
use Rattle.era_base.specs.Bytes.{part}
use Rattle.era_disks.specs.PlainDevices.{plain_sector}
use Rattle.era_disks.specs.declared.plain_disk.PlainDisk.{PlainDisk}
use Rattle.era_disks.proofs.PlainReads.{sector-told}
use Rattle.era_disks.proofs.plain_bay.PlainBay.add.Goals as goal

pub invariant_of-self : goal.invariant_of-self
invariant_of-self c = record { within = λ index loan found out. grind (arith, text_keys, c.args.self.now.within index loan found out) }

pub returns-in-Ok-clause-others : goal.returns-in-Ok-clause-others
returns-in-Ok-clause-others c = grind (arith, text_keys)

pub returns-in-Ok-clause-zeros : goal.returns-in-Ok-clause-zeros
returns-in-Ok-clause-zeros c =
    let device = c.in_ok-device.device in
    let found : get_by_text c.insert.new.self c.args.name.now ≡ Some device = grind (arith, text_keys) in
    record {
      size = length-replicate (c.args.sectors * 512) 0;
      bytes = λ sector below.
          ap (λ (d : Option PlainDisk). plain_sector d sector) found
          ∙ sector-told device sector (omega (arith, c.in_ok-device.ensures.size))
          ∙ ap (λ (bytes : List ℕ). Some (part (sector * 512) 512 bytes)) c.in_ok-device.ensures.zeros;
    }
