use Rattle.std.proofs.Common.{◌≡◌, ◌+◌, ◌≤◌, Option, Some, inl, inr, arith, sym, ◌∙◌, ap}
use Rattle.std.proofs.lemmas.Map.Text.{text_keys}
use Rattle.std.specs.BTreeMap.{get_by_text}
use Rattle.era_disks.specs.PlainDevices.{plain_sector}
use Rattle.era_disks.specs.declared.plain_disk.PlainDisk.{PlainDisk}
use Rattle.era_disks.proofs.FirstDevice.{cases_name}
use Rattle.era_disks.proofs.PlainReads.{written-told, others-told}
use Rattle.era_disks.proofs.plain_bay.PlainBay.take_in.Goals as goal

pub write_part-requires : goal.write_part-requires
write_part-requires c = grind (arith, text_keys)

pub invariant_of-self : goal.invariant_of-self
invariant_of-self c = record { within = λ index loan found out. grind (arith, text_keys, c.args.self.now.within index loan found out) }

pub returns-in-Some-clause-taken : goal.returns-in-Some-clause-taken
returns-in-Some-clause-taken c =
    let disk = c.args.disk.now in
    let was = c.in-Some.device.now in
    let now = c.write_part.new.whole in
    let wrote = c.write_part.ensures in
    let fits : disk.first + disk.sectors ≤ was.sectors = grind (arith, text_keys) in
    record {
      content = λ sector below.
          let is : get_by_text (c.get_mut.follows.lender now) disk.device ≡ Some now = grind (arith, text_keys) in
          ap (λ (d : Option PlainDisk). plain_sector d (disk.first + sector)) is
          ∙ written-told was now disk.first disk.sectors sector disk.bytes.items was.whole wrote.size wrote.written disk.whole fits below;
      others = λ other sector outside. elim (cases_name other disk.device) [
        | inl same ↦
            let before : get_by_text c.args.self.now.devices other ≡ Some was = grind (arith, text_keys) in
            let is : get_by_text (c.get_mut.follows.lender now) other ≡ Some now = grind (arith, text_keys) in
            ap (λ (d : Option PlainDisk). plain_sector d sector) is
            ∙ others-told was now disk.first disk.sectors sector disk.bytes.items was.whole wrote.size wrote.written disk.whole fits (outside same)
            ∙ sym (ap (λ (d : Option PlainDisk). plain_sector d sector) before)
        | inr apart ↦
            let is : get_by_text (c.get_mut.follows.lender now) other ≡ get_by_text c.args.self.now.devices other = grind (arith, text_keys) in
            ap (λ (d : Option PlainDisk). plain_sector d sector) is
      ];
      sizes = λ name. grind (arith, text_keys);
    }
