use Rattle.era_gate.specs.Plays.{no_command}
use Rattle.era_gate.proofs.gate.Gate.draw_keeper.Given as goal

abbrev pub ghosts-draw_keeper : goal.ghosts-draw_keeper
ghosts-draw_keeper a = record { id = no_command; event = a._event.now; number = 0; budget = 0 }
