use Rattle.era_session.proofs.LeftTrails.{leaves-trail}
use Rattle.era_session.proofs.laws.served_commands_leave_their_trail.Goals as goal

pub returns : goal.returns
returns g c = λ id task answer old new fits did. leaves-trail g.D.Disk id task answer old new fits did
