use Rattle.std.proofs.Common.{All, take}
use Rattle.era_top.specs.Runs.{IsServedCommand}
use Rattle.era_top.proofs.served.first_unserved.Given as goal

-- the commands so far are served
abbrev pub invariant-loop-command : goal.invariant-loop-command
invariant-loop-command l = All IsServedCommand (take l.command-index l.commands)
