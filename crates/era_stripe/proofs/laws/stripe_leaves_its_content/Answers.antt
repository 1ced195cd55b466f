use Rattle.era_stripe.proofs.Leaves.{leaves-through, leaves-now}
use Rattle.era_stripe.proofs.laws.stripe_leaves_its_content.Goals as goal

pub returns-clause-images : goal.returns-clause-images
returns-clause-images c = leaves-through

pub returns-clause-now : goal.returns-clause-now
returns-clause-now c = leaves-now
