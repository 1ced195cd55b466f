use Rattle.era_stripe.proofs.stripe.Stripe.refuse.Goals as goal

pub returns-clause-stands : goal.returns-clause-stands
returns-clause-stands g c = λ opening new stands. c.refuse_as.ensures.stands opening new stands
