use Rattle.era_gate.specs.Plays.{no_command}
use Rattle.era_gate.proofs.gate.Gate.draw_stripe.Given as goal

abbrev pub ghosts-draw_stripe : goal.ghosts-draw_stripe
ghosts-draw_stripe a = record { id = no_command; event = a._event.now; number = 0; budget = 0 }
