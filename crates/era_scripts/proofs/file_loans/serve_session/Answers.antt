use Rattle.std.proofs.Common.{length, slice_get, ◌∙◌, ap}
use Rattle.era_scripts.proofs.LoanLists.{is-out}
use Rattle.era_scripts.proofs.file_loans.serve_session.Goals as goal

-- the metadata device is out, since the parts left its loan
pub put_back-requires : goal.put_back-requires
put_back-requires g c = (
  length (g.B.Bay.loans c.args.bay.now),
  is-out g.B.D.Disk.place g.B.D.Disk.sectors (g.B.Bay.loans c.args.bay.now) (g.B.Bay.loans c.open_meta.new.self) (g.B.Bay.loans c.serve_parts.new.bay)
      c.in_ok-disk.disk c.sync.new.self c.in_ok-disk.ensures.loans
      (λ i loan at. c.in_ok-serve_parts.ensures i loan (ap (λ loans. slice_get loans i) c.in_ok-size.ensures.loans ∙ at))
      (c.sync.ensures.place ∙ c.write.ensures.place) (c.sync.ensures.size ∙ c.write.ensures.size),
)
