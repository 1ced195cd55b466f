use Rattle.std.proofs.Common.{◌≡◌, ◌+◌, ◌*◌, ◌≤◌, ℕ, List, ◌++◌, ◌∷◌, [], Option, None, arith, sym, ◌∙◌, ap, subst}
use Rattle.std.proofs.lemmas.Option.{same_Some}
use Rattle.std.specs.BTreeMap.{get_by_text}
use Rattle.era_base.specs.Bay.{Loan, new_loan}
use Rattle.era_base.specs.Bytes.{part}
use Rattle.era_base.specs.CrashModel.{State}
use Rattle.era_base.specs.Disk.{Place}
use Rattle.era_disks.specs.Loans.{loans_of}
use Rattle.era_disks.specs.PlainDisk.{plain_place, plain_sectors}
use Rattle.era_disks.specs.PlainDevices.{LieOnPlain, plain_size, plain_length, plain_sector}
use Rattle.era_disks.specs.declared.plain_disk.PlainDisk.{PlainDisk}
use Rattle.era_disks.specs.declared.loan_entry.LoanEntry.{LoanEntry}
use Rattle.era_disks.proofs.Entries.{all_at-push}
use Rattle.era_disks.proofs.PlainReads.{copy-told}
use Rattle.era_disks.proofs.plain_bay.PlainBay.lend.Goals as goal

pub invariant_of-self-2 : goal.invariant_of-self-2
invariant_of-self-2 c =
    let devices = c.args.self.now.devices in
    let disk = c.in_ok-disk.disk in
    let named : disk.device ≡ c.args.name.now = ap (λ (p : Place). p.device) c.in_ok-disk.ensures.place in
    let first : disk.first ≡ c.args.first = ap (λ (p : Place). p.first) c.in_ok-disk.ensures.place in
    let length : plain_length (get_by_text devices disk.device) ≡ plain_sectors c.in-Some.whole.now =
    ap (λ (n : List ℕ). plain_length (get_by_text devices n)) named ∙ ap plain_length (sym c.in-Some.ensures.value) in
    let size = same_Some (plain_sectors c.in-Some.whole.now) c.requires.size (ap plain_size c.in-Some.ensures.value ∙ c.requires.held) in
    let is : loans_of c.begin.new.self.entries.items ≡ loans_of c.args.self.now.loans.entries.items ++ new_loan disk ∷ [] =
    c.begin.ensures ∙ ap (λ (es : List (LoanEntry PlainDisk)). loans_of es ++ new_loan disk ∷ []) c.in_ok-reserve.ensures.same in
    record {
      within = subst (LieOnPlain devices) (sym is)
          (all_at-push (λ (loan : Loan PlainDisk). loan.back ≡ None → (plain_place loan.lent).first + plain_sectors loan.lent ≤ plain_length (get_by_text devices (plain_place loan.lent).device))
          (loans_of c.args.self.now.loans.entries.items) (new_loan disk) c.args.self.now.within
          (λ out. omega (arith, first, length, size, c.in_ok-disk.ensures.size.0, c.requires.fits)));
    }

pub returns-clause-lent : goal.returns-clause-lent
returns-clause-lent c =
    let whole = c.in-Some.whole.now in
    let size = same_Some (plain_sectors whole) c.requires.size (ap plain_size c.in-Some.ensures.value ∙ c.requires.held) in
    record {
      place = c.in_ok-disk.ensures.place;
      size = c.in_ok-disk.ensures.size.0;
      unused = c.in_ok-disk.ensures.size.1;
      content = λ sector below bytes told.
          ap (λ (state : State). part (sector * 512) 512 state.seen) c.in_ok-disk.ensures.content
          ∙ copy-told whole c.args.first c.args.sectors sector bytes (omega (arith, size, c.requires.fits)) below
          (ap (λ (d : Option PlainDisk). plain_sector d (c.args.first + sector)) c.in-Some.ensures.value ∙ told);
    }
