use Rattle.era_opening.proofs.BackAtEnd.{back-at-end}
use Rattle.era_opening.proofs.laws.devices_of_a_session_may_go_back.Goals as goal

pub returns : goal.returns
returns g c = λ bay line stripes first last has same. back-at-end g.D.Disk bay line stripes first last has same
