use Rattle.era_slots.proofs.Images.{image-either}
use Rattle.era_slots.proofs.laws.standing_slots_leave_one_of_two_bodies.Goals as goal

pub returns : goal.returns
returns c = λ target number may_be_open now stands image is. image-either target number may_be_open now image stands is
