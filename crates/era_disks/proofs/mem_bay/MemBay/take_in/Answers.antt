use Rattle.std.proofs.Common.{◌≡◌, ◌+◌, ◌≤◌, ℕ, length, Some, arith, refl, sym, ◌∙◌, ap, subst}
use Rattle.std.proofs.lemmas.Option.{same_Some}
use borrow.Rule.Slice.PartMut.{put_mid}
use Rattle.era_disks.specs.Devices.{device_length, device_size, device_calls, device_state}
use Rattle.era_disks.specs.MemParts.{TakesPart}
use Rattle.era_disks.specs.declared.device.Device.{Device}
use Rattle.era_disks.proofs.BayReads.{taken-content, taken-others, taken-length}
use Rattle.era_disks.proofs.FirstDevice.{found-along, found-device, same-told, set-named}
use Rattle.era_disks.proofs.mem_bay.MemBay.take_in.Goals as goal

pub invariant_of-self : goal.invariant_of-self
invariant_of-self c =
    let devices = c.args.self.now.devices.items in
    let name = c.args.disk.device in
    let new = c.args.disk.state.rows.items in
    let found = found-along c.as_slice.result.now devices c.as_str.result.now name c.in-Some.index c.as_slice.ensures.value c.as_str.ensures c.in-Some.ensures.some in
    let here = found-device devices name c.in-Some.index found c.index_mut.result.now c.index_mut.ensures.value in
    let now = c.take_back.new.self in
    let named : now.name ≡ name = c.take_back.ensures.name ∙ ap (λ (d : Device). d.name) here ∙ found.named in
    let rows : now.state.rows.items ≡ put_mid c.args.disk.first (length new) found.device.state.rows.items new =
    c.take_back.ensures.part.rows ∙ ap (λ (d : Device). put_mid c.args.disk.first (length new) d.state.rows.items new) here in
    let fits : c.args.disk.first + length new ≤ length found.device.state.rows.items = omega (arith, c.requires, ap device_length found.found) in
    let same = same-told device_length devices name c.in-Some.index found now named in
    record {
      within = λ index loan at out.
          let was = c.args.self.now.within index loan at out in
          let is = same loan.lent.device (λ e. taken-length found.device now c.args.disk.first new rows fits) in
          omega (arith, was, is);
    }

pub returns-in-Some-clause-content : goal.returns-in-Some-clause-content
returns-in-Some-clause-content c =
    let devices = c.args.self.now.devices.items in
    let name = c.args.disk.device in
    let new = c.args.disk.state.rows.items in
    let found = found-along c.as_slice.result.now devices c.as_str.result.now name c.in-Some.index c.as_slice.ensures.value c.as_str.ensures c.in-Some.ensures.some in
    let here = found-device devices name c.in-Some.index found c.index_mut.result.now c.index_mut.ensures.value in
    let now = c.take_back.new.self in
    let named : now.name ≡ name = c.take_back.ensures.name ∙ ap (λ (d : Device). d.name) here ∙ found.named in
    let rows : now.state.rows.items ≡ put_mid c.args.disk.first (length new) found.device.state.rows.items new =
    c.take_back.ensures.part.rows ∙ ap (λ (d : Device). put_mid c.args.disk.first (length new) d.state.rows.items new) here in
    let fits : c.args.disk.first + length new ≤ length found.device.state.rows.items = omega (arith, c.requires, ap device_length found.found) in
    λ sector below. taken-content devices name c.in-Some.index found now c.args.disk.first new named rows fits sector below

pub returns-in-Some-clause-others : goal.returns-in-Some-clause-others
returns-in-Some-clause-others c =
    let devices = c.args.self.now.devices.items in
    let name = c.args.disk.device in
    let new = c.args.disk.state.rows.items in
    let found = found-along c.as_slice.result.now devices c.as_str.result.now name c.in-Some.index c.as_slice.ensures.value c.as_str.ensures c.in-Some.ensures.some in
    let here = found-device devices name c.in-Some.index found c.index_mut.result.now c.index_mut.ensures.value in
    let now = c.take_back.new.self in
    let named : now.name ≡ name = c.take_back.ensures.name ∙ ap (λ (d : Device). d.name) here ∙ found.named in
    let rows : now.state.rows.items ≡ put_mid c.args.disk.first (length new) found.device.state.rows.items new =
    c.take_back.ensures.part.rows ∙ ap (λ (d : Device). put_mid c.args.disk.first (length new) d.state.rows.items new) here in
    let fits : c.args.disk.first + length new ≤ length found.device.state.rows.items = omega (arith, c.requires, ap device_length found.found) in
    λ other sector outside. taken-others devices name c.in-Some.index found now c.args.disk.first new named rows fits other sector outside

pub returns-in-Some-clause-sizes : goal.returns-in-Some-clause-sizes
returns-in-Some-clause-sizes c =
    let devices = c.args.self.now.devices.items in
    let name = c.args.disk.device in
    let new = c.args.disk.state.rows.items in
    let found = found-along c.as_slice.result.now devices c.as_str.result.now name c.in-Some.index c.as_slice.ensures.value c.as_str.ensures c.in-Some.ensures.some in
    let here = found-device devices name c.in-Some.index found c.index_mut.result.now c.index_mut.ensures.value in
    let now = c.take_back.new.self in
    let named : now.name ≡ name = c.take_back.ensures.name ∙ ap (λ (d : Device). d.name) here ∙ found.named in
    let rows : now.state.rows.items ≡ put_mid c.args.disk.first (length new) found.device.state.rows.items new =
    c.take_back.ensures.part.rows ∙ ap (λ (d : Device). put_mid c.args.disk.first (length new) d.state.rows.items new) here in
    let fits : c.args.disk.first + length new ≤ length found.device.state.rows.items = omega (arith, c.requires, ap device_length found.found) in
    λ other. same-told device_size devices name c.in-Some.index found now named other
    (λ e. ap (λ (n : ℕ). Some n) (taken-length found.device now c.args.disk.first new rows fits))

pub returns-in-Some-clause-calls : goal.returns-in-Some-clause-calls
returns-in-Some-clause-calls c =
    let devices = c.args.self.now.devices.items in
    let name = c.args.disk.device in
    let found = found-along c.as_slice.result.now devices c.as_str.result.now name c.in-Some.index c.as_slice.ensures.value c.as_str.ensures c.in-Some.ensures.some in
    let here = found-device devices name c.in-Some.index found c.index_mut.result.now c.index_mut.ensures.value in
    let now = c.take_back.new.self in
    let named : now.name ≡ name = c.take_back.ensures.name ∙ ap (λ (d : Device). d.name) here ∙ found.named in
    record {
      device = λ calls told.
          sym (same_Some now.calls calls (sym (ap device_calls (set-named devices name c.in-Some.index found now named)) ∙ told))
          ∙ c.take_back.ensures.calls;
      others = λ other apart. same-told device_calls devices name c.in-Some.index found now named other (λ e. absurd (apart e));
      bay = refl;
    }

pub returns-in-Some-clause-taken : goal.returns-in-Some-clause-taken
returns-in-Some-clause-taken c =
    let devices = c.args.self.now.devices.items in
    let name = c.args.disk.device in
    let found = found-along c.as_slice.result.now devices c.as_str.result.now name c.in-Some.index c.as_slice.ensures.value c.as_str.ensures c.in-Some.ensures.some in
    let here = found-device devices name c.in-Some.index found c.index_mut.result.now c.index_mut.ensures.value in
    let now = c.take_back.new.self in
    let named : now.name ≡ name = c.take_back.ensures.name ∙ ap (λ (d : Device). d.name) here ∙ found.named in
    record {
      part = λ before told.
          let was : found.device.state ≡ before = same_Some found.device.state before (sym (ap device_state found.found) ∙ told) in (
            now.state,
            ap device_state (set-named devices name c.in-Some.index found now named),
            subst (λ state. TakesPart c.args.disk.first c.args.disk.state state now.state) (ap (λ (d : Device). d.state) here ∙ was) c.take_back.ensures.part,
          );
      others = λ other apart. same-told device_state devices name c.in-Some.index found now named other (λ e. absurd (apart e));
    }
