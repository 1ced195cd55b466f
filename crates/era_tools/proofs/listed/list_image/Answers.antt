use Rattle.std.proofs.Common.{refl, inr, subst}
use Rattle.era_meta.specs.Meaning.{Meaning}
use Rattle.era_tools.specs.Around.{Between, bay_around}
use Rattle.era_tools.specs.BackupText.{IsListing}
use Rattle.era_tools.proofs.ImageTold.{tells-of-image}
use Rattle.era_tools.proofs.PutBack.{PutsBack, out}
use Rattle.era_tools.proofs.listed.list_image.Goals as goal

-- the disk is out
pub put_back-requires : goal.put_back-requires
put_back-requires g c =
    rw c.into_disk.ensures
    (out g.row.B-D.Denot g.B.D.Disk (g.B.Bay.loans c.args.bay.now) _ c.in-Ok.ensures.lent c.in-Ok.opened.slots.disk c.in-Ok.ensures.has_lent.loans c.in-Ok.ensures.tried.same)

-- it was put back behind the list
pub returns-in-Ok-listed : goal.returns-in-Ok-listed
returns-in-Ok-listed g c =
    let bay = bay_around g.B.Bay c.args.bay.now c.put_back.new.self in
    let between : Between g.row.B-D.Denot = record {
      sizes = g.B.Bay.sizes c.open_metadata.new.bay;
      reads = g.B.Bay.reads c.open_metadata.new.bay;
      loans = g.B.Bay.loans c.open_metadata.new.bay;
      faults = g.B.Bay.faults c.open_metadata.new.bay;
    } in
    let told = tells-of-image g.row.B-D.Denot g.B.D.Disk bay between c.args.name.now c.in-Ok.opened
    (λ (meaning : Meaning). IsListing meaning.marks c.args.since c.in-Ok-listed.listing) c.in-Ok.ensures
    (subst (PutsBack g.B.D.Disk between bay) c.into_disk.ensures
    (record {
      loans = c.put_back.ensures.loans;
      content = c.put_back.ensures.content;
      others = c.put_back.ensures.others;
      sizes = c.put_back.ensures.sizes;
      faults = c.put_back.ensures.same;
    }))
    c.in-Ok-listed.ensures in
    (told.meaning, record { lent = told.lent; tried = told.tried; stands = told.stands }, told.told)

-- or behind the want of memory
pub returns-in-Ok : goal.returns-in-Ok
returns-in-Ok g c =
    let bay = bay_around g.B.Bay c.args.bay.now c.put_back.new.self in
    let between : Between g.row.B-D.Denot = record {
      sizes = g.B.Bay.sizes c.open_metadata.new.bay;
      reads = g.B.Bay.reads c.open_metadata.new.bay;
      loans = g.B.Bay.loans c.open_metadata.new.bay;
      faults = g.B.Bay.faults c.open_metadata.new.bay;
    } in
    let told = tells-of-image g.row.B-D.Denot g.B.D.Disk bay between c.args.name.now c.in-Ok.opened
    (λ (meaning : Meaning). Unit {0}) c.in-Ok.ensures
    (subst (PutsBack g.B.D.Disk between bay) c.into_disk.ensures
    (record {
      loans = c.put_back.ensures.loans;
      content = c.put_back.ensures.content;
      others = c.put_back.ensures.others;
      sizes = c.put_back.ensures.sizes;
      faults = c.put_back.ensures.same;
    }))
    tt in
    inr (refl, told.meaning, record { lent = told.lent; tried = told.tried; stands = told.stands })
