use Rattle.std.proofs.Common.{◌≡◌, ◌+◌, ◌≤◌, ℕ, List, length, take, drop, ◌++◌, ◌∷◌, [], None, arith, sym, ◌∙◌, ap, subst}
use Rattle.std.proofs.lemmas.Option.{same_Some}
use Rattle.era_base.specs.Bay.{Loan, new_loan}
use Rattle.era_base.specs.Disk.{Place}
use Rattle.era_disks.specs.Loans.{loans_of}
use Rattle.era_disks.specs.MemDisk.{place_of, sectors_of}
use Rattle.era_disks.specs.Devices.{LieWithin, device_of, device_length, device_state, device_calls}
use Rattle.era_disks.specs.DiskCalls.{restarted_calls}
use Rattle.era_disks.specs.Fuses.{SameFuse}
use Rattle.era_disks.specs.MemParts.{IsPartOf}
use Rattle.era_disks.specs.declared.device.Device.{Device}
use Rattle.era_disks.specs.declared.mem_disk.MemDisk.{MemDisk}
use Rattle.era_disks.specs.declared.loan_entry.LoanEntry.{LoanEntry}
use Rattle.era_disks.proofs.Entries.{all_at-push}
use Rattle.era_disks.proofs.FirstDevice.{found-device}
use Rattle.era_disks.proofs.mem_bay.MemBay.lend.Goals as goal

pub invariant_of-self-2 : goal.invariant_of-self-2
invariant_of-self-2 c =
    let here = found-device c.args.self.now.devices.items c.args.name.now c.args.index c.requires.found c.index.result.now c.index.ensures in
    let devices = c.args.self.now.devices.items in
    let named : c.in_ok-disk.disk.device ≡ c.args.name.now =
    ap (λ (p : Place). p.device) c.in_ok-disk.ensures.place ∙ ap (λ (d : Device). d.name) here ∙ c.requires.found.named in
    let first : c.in_ok-disk.disk.first ≡ c.args.first = ap (λ (p : Place). p.first) c.in_ok-disk.ensures.place in
    let size : device_length (device_of devices c.in_ok-disk.disk.device) ≡ length c.requires.found.device.state.rows.items =
    ap (λ (n : List ℕ). device_length (device_of devices n)) named ∙ ap device_length c.requires.found.found in
    let is : loans_of c.begin.new.self.entries.items ≡ loans_of c.args.self.now.loans.entries.items ++ new_loan c.in_ok-disk.disk ∷ [] =
    c.begin.ensures ∙ ap (λ (es : List (LoanEntry MemDisk)). loans_of es ++ new_loan c.in_ok-disk.disk ∷ []) c.in_ok-reserve.ensures.same in
    record {
      within = subst (LieWithin devices) (sym is)
          (all_at-push (λ (loan : Loan MemDisk). loan.back ≡ None → (place_of loan.lent).first + sectors_of loan.lent ≤ device_length (device_of devices (place_of loan.lent).device))
          (loans_of c.args.self.now.loans.entries.items) (new_loan c.in_ok-disk.disk) c.args.self.now.within
          (λ out. omega (arith, first, size, c.in_ok-disk.ensures.size, c.requires.fits)));
    }

pub returns-clause-place : goal.returns-clause-place
returns-clause-place c =
    let here = found-device c.args.self.now.devices.items c.args.name.now c.args.index c.requires.found c.index.result.now c.index.ensures in
    c.in_ok-disk.ensures.place
    ∙ ap (λ (n : List ℕ). let p : Place = record { device = n; first = c.args.first } in p) (ap (λ (d : Device). d.name) here ∙ c.requires.found.named)

pub returns-clause-anew : goal.returns-clause-anew
returns-clause-anew c =
    let found = c.requires.found in
    let here = found-device c.args.self.now.devices.items c.args.name.now c.args.index found c.index.result.now c.index.ensures in
    let disk = c.in_ok-disk.disk in
    let first : disk.first ≡ c.args.first = ap (λ (p : Place). p.first) c.in_ok-disk.ensures.place in
    record {
      part = λ whole told.
          let same : found.device.state ≡ whole = same_Some found.device.state whole (sym (ap device_state found.found) ∙ told) in
          subst (λ n. IsPartOf n (sectors_of disk) whole disk.state) (sym first)
          (subst (λ n. IsPartOf c.args.first n whole disk.state) (sym c.in_ok-disk.ensures.size)
          (subst (λ w. IsPartOf c.args.first c.args.sectors w disk.state) (ap (λ (d : Device). d.state) here ∙ same) c.in_ok-disk.ensures.part));
      calls = λ calls told.
          c.in_ok-disk.ensures.calls
          ∙ ap restarted_calls (ap (λ (d : Device). d.calls) here ∙ same_Some found.device.calls calls (sym (ap device_calls found.found) ∙ told));
      faults = c.in_ok-disk.ensures.fresh.0;
      starved = c.in_ok-disk.ensures.fresh.1;
      fuse = subst (SameFuse c.args.self.now.fuse) (sym c.in_ok-disk.ensures.fuse) c.in_ok-fuse.ensures;
      made = c.in_ok-disk.ensures.fresh.2;
    }
