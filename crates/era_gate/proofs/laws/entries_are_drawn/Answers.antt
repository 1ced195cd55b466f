use Rattle.std.proofs.Common.{arith}
use Rattle.era_gate.specs.Acts.{opened}
use Rattle.era_gate.proofs.DrawnEntries.{keeper-drawn, places-drawn, stripe-drawn}
use Rattle.era_gate.proofs.laws.entries_are_drawn.Goals as goal

pub returns-clause-stripe : goal.returns-clause-stripe
returns-clause-stripe c = λ d era acts. stripe-drawn d (opened era) acts

pub returns-clause-keeper : goal.returns-clause-keeper
returns-clause-keeper c = λ era acts. keeper-drawn (opened era) acts

pub returns-clause-places : goal.returns-clause-places
returns-clause-places c = λ era acts. let is = places-drawn (opened era) acts in omega (arith, is)
