use Rattle.era_gate.specs.Plays.{no_command, no_event}
use Rattle.era_gate.proofs.gate.Gate.split_pass.Given as goal

abbrev pub ghosts-lanes_off : goal.ghosts-lanes_off
ghosts-lanes_off a = record { id = no_command; event = no_event; number = a._first; budget = a._budget }
