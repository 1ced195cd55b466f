use Rattle.std.proofs.Common.{◌≡◌, ◌*◌, ℕ, List, Option, Some, arith, ◌∙◌, ap}
use Rattle.std.proofs.lemmas.List.{length-replicate}
use Rattle.era_base.specs.Bytes.{part}
use Rattle.era_base.specs.CrashModel.{State}
use Rattle.era_disks.specs.Devices.{device_of, device_reads, device_size, device_calls}
use Rattle.era_disks.specs.declared.device.Device.{Device}
use Rattle.era_disks.specs.declared.disk_calls.DiskCalls.{DiskCalls}
use Rattle.era_disks.proofs.BayReads.{row-told}
use Rattle.era_disks.proofs.FirstDevice.{added-named, added-other, length-pushed, no-size}
use Rattle.era_disks.proofs.mem_bay.MemBay.add.Goals as goal

pub invariant_of-self : goal.invariant_of-self
invariant_of-self c = record {
  within = λ index loan found out.
      let was = c.args.self.now.within index loan found out in
      let more = length-pushed c.args.self.now.devices.items c.push.new.self.items _ loan.lent.device c.push.result c.push.ensures.items in
      omega (arith, was, more);
}

pub returns-clause-size : goal.returns-clause-size
returns-clause-size c =
    ap (λ (ds : List Device). device_size (device_of ds c.args.name.now)) c.in_ok-push.ensures.items
    ∙ ap device_size (added-named c.args.self.now.devices.items _ c.args.name.now (no-size _ c.requires) c.in_ok-from_text.ensures)
    ∙ ap (λ (n : ℕ). Some n) c.in_ok-new.ensures.size

pub returns-clause-zeros : goal.returns-clause-zeros
returns-clause-zeros c =
    record {
      size = length-replicate (c.args.sectors * 512) 0;
      bytes = λ sector below.
          ap (λ (ds : List Device). device_reads (device_of ds c.args.name.now) sector) c.in_ok-push.ensures.items
          ∙ ap (λ (d : Option Device). device_reads d sector)
          (added-named c.args.self.now.devices.items _ c.args.name.now (no-size _ c.requires) c.in_ok-from_text.ensures)
          ∙ row-told c.in_ok-new.field-0.rows.items sector (omega (arith, c.in_ok-new.ensures.size))
          ∙ ap (λ (state : State). Some (part (sector * 512) 512 state.seen)) c.in_ok-new.ensures.state;
    }

pub returns-clause-others : goal.returns-clause-others
returns-clause-others c = λ other apart.
    let same = λ (ds : List Device). device_of ds other in
    let is : device_of c.push.new.self.items other ≡ device_of c.args.self.now.devices.items other =
    ap same c.in_ok-push.ensures.items
    ∙ added-other c.args.self.now.devices.items _ other (λ e. apart (e ∙ c.in_ok-from_text.ensures)) in
    (ap device_size is, (λ sector. ap (λ (d : Option Device). device_reads d sector) is), ap device_calls is)

pub returns-clause-calls : goal.returns-clause-calls
returns-clause-calls c =
    ap (λ (ds : List Device). device_calls (device_of ds c.args.name.now)) c.in_ok-push.ensures.items
    ∙ ap device_calls (added-named c.args.self.now.devices.items _ c.args.name.now (no-size _ c.requires) c.in_ok-from_text.ensures)
    ∙ ap (λ (cs : DiskCalls). Some cs) c.new-2.ensures
