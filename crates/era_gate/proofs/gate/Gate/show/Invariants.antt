use Rattle.era_gate.specs.Plays.{no_command, no_event}
use Rattle.era_gate.proofs.gate.Gate.show.Given as goal

abbrev pub ghosts-split_stripe : goal.ghosts-split_stripe
ghosts-split_stripe a = record { id = no_command; event = no_event; number = a._block; budget = 0 }
