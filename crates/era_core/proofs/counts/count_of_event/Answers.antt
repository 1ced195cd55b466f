use Rattle.std.specs.Prelude.{reverse}
use Rattle.era_core.proofs.counts.count_of_event.Goals as goal

-- a refusal tells its own count
pub returns-in-Refused : goal.returns-in-Refused
returns-in-Refused c = rw c.in-Refused.is (c.count_of_refusal.ensures (reverse c.args.earlier.now) c.in-Refused.id c.in-Refused.kind)
