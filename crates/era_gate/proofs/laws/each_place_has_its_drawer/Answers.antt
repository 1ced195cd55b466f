use Rattle.era_gate.proofs.Ascending.{keeper-ascends, stripe-ascends}
use Rattle.era_gate.proofs.GatheredDrawers.{all-have_drawers}
use Rattle.era_gate.proofs.GatheredOnce.{opened-apart, opened-keeper_apart}
use Rattle.era_gate.proofs.laws.each_place_has_its_drawer.Goals as goal

pub returns-clause-drawer : goal.returns-clause-drawer
returns-clause-drawer c = all-have_drawers

pub returns-clause-stripe : goal.returns-clause-stripe
returns-clause-stripe c = stripe-ascends

pub returns-clause-keeper : goal.returns-clause-keeper
returns-clause-keeper c = keeper-ascends

pub returns-clause-one : goal.returns-clause-one
returns-clause-one c = opened-apart

pub returns-clause-apart : goal.returns-clause-apart
returns-clause-apart c = opened-keeper_apart
