use Rattle.std.proofs.Common.{length, ◌∙◌}
use Rattle.era_scripts.proofs.LoanLists.{is-out, stay-through}
use Rattle.era_scripts.proofs.file_loans.+serve_parts.Goals as goal

-- the part is out, since the other parts left its loan
pub put_back-requires : goal.put_back-requires
put_back-requires g n c = (
  length (g.B.Bay.loans c.args.bay.now),
  is-out g.B.D.Disk.place g.B.D.Disk.sectors (g.B.Bay.loans c.args.bay.now) (g.B.Bay.loans c.open_part.new.self) (g.B.Bay.loans c.serve_parts.new.bay)
      c.in_ok-part.part c.read.new.self c.in_ok-part.ensures.loans c.in_ok-serve_parts.ensures
      (c.read.ensures.place ∙ c.sync.ensures.place ∙ c.write.ensures.place) (c.read.ensures.size ∙ c.sync.ensures.size ∙ c.write.ensures.size),
)

-- its end leaves the loans before it
pub returns-then-eq : goal.returns-then-eq
returns-then-eq g n c = λ index loan at.
    stay-through g.B.D.Disk.place g.B.D.Disk.sectors (g.B.Bay.loans c.args.bay.now) (g.B.Bay.loans c.open_part.new.self) (g.B.Bay.loans c.serve_parts.new.bay)
    (g.B.Bay.loans c.put_back.new.self) c.in_ok-part.part c.read.new.self c.in_ok-part.ensures.loans c.in_ok-serve_parts.ensures
    (c.read.ensures.place ∙ c.sync.ensures.place ∙ c.write.ensures.place) (c.read.ensures.size ∙ c.sync.ensures.size ∙ c.write.ensures.size)
    c.put_back.ensures.loans index loan at
