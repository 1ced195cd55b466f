use Rattle.era_stripe.proofs.Ordered.{stripes-ordered}
use Rattle.era_stripe.proofs.laws.stripes_windows_are_ordered.Goals as goal

pub returns : goal.returns
returns c = stripes-ordered
