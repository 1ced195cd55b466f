use Rattle.era_core.proofs.happen.may_happen.Goals as goal

-- a write may be issued
pub returns-in-Go : goal.returns-in-Go
returns-in-Go c = rw c.in-Go.is (rw c.as_slice.ensures at c.may_go.ensures)
