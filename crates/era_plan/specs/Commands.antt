-- Commands of a stream: how many bytes they have, and how many of them are of a lane.
use Rattle.std.specs.Prelude.{ℕ, ◌==◌, List, sum_by, count_by}
use Rattle.era_model.specs.Tasks.{payload_of_task}
use Rattle.era_model.specs.declared.command.Command.{Command}

-- How many bytes commands have together.
abbrev pub payload_of : List Command → ℕ
payload_of commands = sum_by (λ command. payload_of_task command.task) commands

-- How many of the commands are of a lane.
abbrev pub count_of_lane : ℕ → List Command → ℕ
count_of_lane lane commands = count_by (λ command. command.id.lane == lane) commands
