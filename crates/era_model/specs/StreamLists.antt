-- What the lists of a stream have to name, by its commands alone.
use Rattle.std.specs.Prelude.{◌≡◌, ◌↔◌, ℕ, ◌+◌, ◌/◌, ◌≤◌, max, sum_by, Bool, true, false, List, ◌∷◌, ◌++◌, length, Option, None, Some, option_map, if◌then◌else◌}
use Rattle.era_base.specs.Geometry.{place_at}
use Rattle.era_base.specs.Runs.{AreRuns, runs_cover}
use Rattle.era_base.specs.declared.geometry.Geometry.{Geometry}
use Rattle.era_model.specs.declared.history.Happening.{Happening}
use Rattle.era_model.specs.declared.reply.Answer.{Answer}
use Rattle.era_model.specs.declared.reply.Answer.TheVariants.{Blocks, Memory}
use Rattle.era_model.specs.declared.command.Command.{Command}
use Rattle.era_model.specs.declared.command.Request.TheVariants.{Checkpoint, List as ListRequest}
use Rattle.era_model.specs.declared.command.Task.{Task}
use Rattle.era_model.specs.declared.command.Task.TheVariants.{Write, Ask}
use Rattle.era_model.specs.Commands.{events_of, answer_of}

-- Whether a task is a checkpoint.
abbrev pub is_checkpoint : Task → Bool
is_checkpoint (Ask Checkpoint) = true
is_checkpoint task = false

-- The era of a command of a stream: one more than the number of checkpoints before it.
abbrev pub era_behind : List Command → ℕ
era_behind before = sum_by (λ command. if is_checkpoint command.task then 1 else 0) before + 1

-- The block to which a task writes, none where it writes nothing in range.
abbrev pub block_written : Geometry → Task → Option ℕ
block_written g (Write sector bytes) = option_map (λ place. place.0) (place_at g.sectors g.block_sectors sector (length bytes / 512))
block_written g task = None

-- Among the commands there is a write in range to the block, in an era of at least that one. Era 0 means the same as 1.
pub record IsWrittenSince (g : Geometry) (commands : List Command) (since block : ℕ) : Type 0 where
  pub before : List Command
  pub write : Command
  pub after : List Command
  pub among : commands ≡ before ++ write ∷ after
  pub in_range : block_written g write.task ≡ Some block
  pub era : max since 1 ≤ era_behind before

-- The runs are maximal and ascend, and name exactly the blocks with a write in range among the commands, in an era of at least that one.
pub record NamesWritten (g : Geometry) (commands : List Command) (since : ℕ) (runs : List (ℕ × ℕ)) : Type 0 where
  pub maximal : AreRuns runs
  pub exact : (block : ℕ) → (runs_cover runs block ≡ true) ↔ IsWrittenSince g commands since block

-- How a list behind these commands is answered: it names exactly the blocks that they wrote since its era, or memory was refused.
abbrev pub IsListAnswer : Geometry → List Command → ℕ → Answer → Type 0
IsListAnswer g before since (Blocks runs) = NamesWritten g before since runs
IsListAnswer g before since Memory = Unit {0}
IsListAnswer g before since answer = ⊥

-- Each list among the commands is answered so.
abbrev pub ListsNameWritten : Geometry → List Happening → List Command → Type 0
ListsNameWritten g h commands =
    (before after : List Command) (list : Command) (since : ℕ) → commands ≡ before ++ list ∷ after → list.task ≡ Ask (ListRequest since false)
    → IsListAnswer g before since (answer_of (events_of h list.id))
