use Rattle.std.proofs.Common.{All, take}
use Rattle.era_serve.specs.Lanes.{IsOfLane}
use Rattle.era_serve.proofs.lanes.first_elsewhere.Given as goal

-- the commands so far are of the lane
abbrev pub invariant-loop-command : goal.invariant-loop-command
invariant-loop-command l = All (IsOfLane l.lane) (take l.command-index l.commands)
