-- The memory that is made for the commands of a round before the first of them is served.
use Rattle.std.specs.Prelude.{◌≡◌, ℕ, ◌≤◌, List, [], ◌∷◌, ◌++◌, vec_capacity}
use Rattle.era_model.specs.declared.command.Command.{Command}
use Rattle.era_model.specs.declared.command.Task.{Task}
use Rattle.era_serve.specs.declared.memory.CommandMemory.{CommandMemory}
use Rattle.era_session.specs.Serving.{IsRoomFor}
use Rattle.era_session.specs.declared.trails.TheConstants.{TRAIL_ENTRIES}

-- The memory is that of a command that does this task at a session of so many stripes: its room, and a list for as many entries as a command draws.
pub record IsMemoryFor (stripes : ℕ) (task : Task) (memory : CommandMemory) : Type 0 where
  pub room : IsRoomFor stripes task memory.room
  pub none : memory.trail.items ≡ []
  pub trail : TRAIL_ENTRIES ≤ vec_capacity memory.trail

-- The memories are those of commands, the last memory that of the first command.
abbrev pub AreMemoriesFor : ℕ → List Command → List CommandMemory → Type 0
AreMemoriesFor stripes [] memories = memories ≡ []
AreMemoriesFor stripes (command ∷ commands) memories =
    (others : List CommandMemory) × (own : CommandMemory) × (memories ≡ others ++ own ∷ [])
    × IsMemoryFor stripes command.task own × AreMemoriesFor stripes commands others
