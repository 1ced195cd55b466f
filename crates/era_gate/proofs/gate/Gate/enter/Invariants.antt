use Rattle.era_gate.specs.Plays.{no_event}
use Rattle.era_gate.proofs.gate.Gate.enter.Given as goal

abbrev pub ghosts-enter : goal.ghosts-enter
ghosts-enter a = record { id = a._id; event = no_event; number = 0; budget = 0 }
