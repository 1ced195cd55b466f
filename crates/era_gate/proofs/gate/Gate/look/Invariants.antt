use Rattle.era_gate.specs.Plays.{no_command, no_event}
use Rattle.era_gate.proofs.gate.Gate.look.Given as goal

abbrev pub ghosts-look : goal.ghosts-look
ghosts-look a = record { id = no_command; event = no_event; number = a._block; budget = 0 }
