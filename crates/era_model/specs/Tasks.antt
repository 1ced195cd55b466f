-- How many bytes a task has, and which tasks a session takes.
use Rattle.std.specs.Prelude.{◌≡◌, ℕ, ◌*◌, ◌%◌, ◌<◌, ◌≤◌, length}
use Rattle.era_model.specs.declared.command.Task.{Task}
use Rattle.era_model.specs.declared.command.Task.TheVariants.{Write, Read, Ask}

-- So many bytes are 1 to 128 whole sectors.
pub record IsPayload (count : ℕ) : Type 0 where
  pub some : 0 < count
  pub whole : count % 512 ≡ 0
  pub most : count ≤ 65536

-- How many bytes a task writes, or asks for by a read.
abbrev pub payload_of_task : Task → ℕ
payload_of_task (Write sector bytes) = length bytes
payload_of_task (Read sector count) = count * 512
payload_of_task (Ask request) = 0

-- A task is one that a line spells: a write has 1 to 128 whole sectors, and a read asks for as many.
abbrev pub IsTask : Task → Type 0
IsTask (Write sector bytes) = IsPayload (length bytes)
IsTask (Read sector count) = (0 < count) × (count ≤ 128)
IsTask (Ask request) = Unit {0}
