use Rattle.std.proofs.Common.{◌≡◌, ℕ, length, Some, arith, refl, sym, ◌∙◌, ap, subst}
use Rattle.std.proofs.lemmas.Option.{same_Some}
use Rattle.era_disks.specs.Crashed.{Crashes}
use Rattle.era_disks.specs.Devices.{device_size, device_state, device_length, device_calls}
use Rattle.era_disks.specs.declared.device.Device.{Device}
use Rattle.era_disks.specs.declared.disk_calls.DiskCalls.{DiskCalls}
use Rattle.era_disks.proofs.FirstDevice.{found-along, found-device, same-told, set-named}
use Rattle.era_disks.proofs.mem_bay.MemBay.crash.Goals as goal

pub invariant_of-self : goal.invariant_of-self
invariant_of-self c =
    let devices = c.args.self.now.devices.items in
    let name = c.args.name.now in
    let found = found-along c.as_slice.result.now devices name name c.in-Some.index c.as_slice.ensures.value refl c.in-Some.ensures.some in
    let here = found-device devices name c.in-Some.index found c.index_mut.result.now c.index_mut.ensures.value in
    let now = c.crash.new.self in
    let named : now.name ≡ name = c.crash.ensures.rest.0 ∙ ap (λ (d : Device). d.name) here ∙ found.named in
    let size : length now.state.rows.items ≡ length found.device.state.rows.items = c.crash.ensures.size ∙ ap (λ (d : Device). length d.state.rows.items) here in
    let same = same-told device_length devices name c.in-Some.index found now named in
    record {
      within = λ index loan at out.
          let was = c.args.self.now.within index loan at out in
          let is = same loan.lent.device (λ e. size) in
          omega (arith, was, is);
    }

pub returns-in-Some-clause-torn : goal.returns-in-Some-clause-torn
returns-in-Some-clause-torn c = λ before told.
    let devices = c.args.self.now.devices.items in
    let name = c.args.name.now in
    let found = found-along c.as_slice.result.now devices name name c.in-Some.index c.as_slice.ensures.value refl c.in-Some.ensures.some in
    let here = found-device devices name c.in-Some.index found c.index_mut.result.now c.index_mut.ensures.value in
    let now = c.crash.new.self in
    let named : now.name ≡ name = c.crash.ensures.rest.0 ∙ ap (λ (d : Device). d.name) here ∙ found.named in
    let size : length now.state.rows.items ≡ length found.device.state.rows.items = c.crash.ensures.size ∙ ap (λ (d : Device). length d.state.rows.items) here in
    let was : found.device.state ≡ before = same_Some found.device.state before (sym (ap device_state found.found) ∙ told) in (
      now.state,
      ap device_state (set-named devices name c.in-Some.index found now named),
      subst (λ state. Crashes c.args.tear state now.state c.crash.result) (ap (λ (d : Device). d.state) here ∙ was) c.crash.ensures.torn,
    )

pub returns-in-Some-clause-sizes : goal.returns-in-Some-clause-sizes
returns-in-Some-clause-sizes c = λ other.
    let devices = c.args.self.now.devices.items in
    let name = c.args.name.now in
    let found = found-along c.as_slice.result.now devices name name c.in-Some.index c.as_slice.ensures.value refl c.in-Some.ensures.some in
    let here = found-device devices name c.in-Some.index found c.index_mut.result.now c.index_mut.ensures.value in
    let now = c.crash.new.self in
    let named : now.name ≡ name = c.crash.ensures.rest.0 ∙ ap (λ (d : Device). d.name) here ∙ found.named in
    let size : length now.state.rows.items ≡ length found.device.state.rows.items = c.crash.ensures.size ∙ ap (λ (d : Device). length d.state.rows.items) here in
    same-told device_size devices name c.in-Some.index found now named other (λ e. ap (λ (n : ℕ). Some n) size)

pub returns-in-Some-clause-others : goal.returns-in-Some-clause-others
returns-in-Some-clause-others c = λ other apart.
    let devices = c.args.self.now.devices.items in
    let name = c.args.name.now in
    let found = found-along c.as_slice.result.now devices name name c.in-Some.index c.as_slice.ensures.value refl c.in-Some.ensures.some in
    let here = found-device devices name c.in-Some.index found c.index_mut.result.now c.index_mut.ensures.value in
    let now = c.crash.new.self in
    let named : now.name ≡ name = c.crash.ensures.rest.0 ∙ ap (λ (d : Device). d.name) here ∙ found.named in
    let size : length now.state.rows.items ≡ length found.device.state.rows.items = c.crash.ensures.size ∙ ap (λ (d : Device). length d.state.rows.items) here in
    same-told device_state devices name c.in-Some.index found now named other (λ e. absurd (apart e))

pub returns-in-Some-clause-calls : goal.returns-in-Some-clause-calls
returns-in-Some-clause-calls c =
    let devices = c.args.self.now.devices.items in
    let name = c.args.name.now in
    let found = found-along c.as_slice.result.now devices name name c.in-Some.index c.as_slice.ensures.value refl c.in-Some.ensures.some in
    let here = found-device devices name c.in-Some.index found c.index_mut.result.now c.index_mut.ensures.value in
    let now = c.crash.new.self in
    let named : now.name ≡ name = c.crash.ensures.rest.0 ∙ ap (λ (d : Device). d.name) here ∙ found.named in
    let size : length now.state.rows.items ≡ length found.device.state.rows.items = c.crash.ensures.size ∙ ap (λ (d : Device). length d.state.rows.items) here in (
      refl,
      λ other. same-told device_calls devices name c.in-Some.index found now named other
          (λ e. ap (λ (cs : DiskCalls). Some cs) (c.crash.ensures.rest.1 ∙ ap (λ (d : Device). d.calls) here)),
    )
