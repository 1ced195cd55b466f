use Rattle.std.proofs.Common.{ℕ, inl, inr, subst}
use Rattle.std.proofs.lemmas.Slice.Eq.{bytes_eq-Decides}
use Rattle.era_tools.specs.Around.{Between, behind, bay_around}
use Rattle.era_tools.specs.BackupText.{IsListing}
use Rattle.era_tools.specs.BackupTool.{RunsCopy}
use Rattle.era_tools.proofs.backing_up.backup.Goals as goal

-- the image was listed, and the origin was copied
pub returns-in-Ok-clause-ran : goal.returns-in-Ok-clause-ran
returns-in-Ok-clause-ran g c =
    let bay = bay_around g.B.Bay c.args.bay.now c.copy_origin.new.bay in
    let between : Between g.row.B-D.Denot = record {
      sizes = g.B.Bay.sizes c.list_image.new.bay;
      reads = g.B.Bay.reads c.list_image.new.bay;
      loans = g.B.Bay.loans c.list_image.new.bay;
      faults = g.B.Bay.faults c.list_image.new.bay;
    } in
    inr (
      (λ same. let yes = (bytes_eq-Decides c.args.meta.now c.args.origin.now).1 same in let no = c.if-eq.ensures in let is = c.eq.ensures in let test = c.if-eq.false in absurd (cc)),
      inl (record {
        listing = c.in-Ok.listing;
        between = between;
        meaning = c.in-Ok.ensures.0;
        looked = c.in-Ok.ensures.1;
        listed = subst (λ (since : ℕ). IsListing c.in-Ok.ensures.0.marks since c.in-Ok.listing) c.max-since.ensures c.in-Ok.ensures.2;
        copied = subst (λ (since : ℕ). RunsCopy g.B.D.Disk (behind bay between) c.args.origin.now c.in-Ok.listing since
            (g.K.Sink.given c.args.sink.now) (g.K.Sink.given c.copy_origin.new.sink) c.copy_origin.result) c.max-since.ensures c.copy_origin.ensures.ran;
      }),
    )
