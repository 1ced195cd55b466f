-- What an exchange of the gate word answers, and what it makes of the keeper.
use Rattle.std.specs.Prelude.{◌≡◌, ◌+◌, ◌<◌, ◌≤◌}
use Rattle.era_gate.specs.declared.parts.KeeperPart.{KeeperPart}
use Rattle.era_gate.specs.declared.parts.PassPart.{PassPart}
use Rattle.era_gate.specs.declared.rolled.Rolled.{Rolled}
use Rattle.era_gate.specs.declared.rolled.Rolled.TheVariants.{Moved, Kept}
use Rattle.era_gate.specs.Calls.{moves, fails}

-- The keeper after an exchange, by its answer: the era moved, or the count and the stays that the pass knew as ended are kept.
abbrev pub rolls : Rolled → KeeperPart → PassPart → KeeperPart
rolls (Moved era) part pass = moves part
rolls (Kept found) part pass = fails part found pass.ended

-- An exchange moves to the next era, or finds from 1 to 16 stripes inside.
abbrev pub IsAnswer : Rolled → KeeperPart → Type 0
IsAnswer (Moved era) part = era ≡ part.state.era + 1
IsAnswer (Kept found) part = (0 < found) × (found ≤ 16)
