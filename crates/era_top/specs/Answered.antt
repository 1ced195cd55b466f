-- What the answers of a session's commands say of memory and of the origin.
use Rattle.std.specs.Prelude.{◌≡◌, ℕ, Bool, true, false, List, [], ◌∷◌, ◌++◌}
use Rattle.std.specs.List.{list_any}
use Rattle.era_model.specs.declared.history.Happening.{Happening}
use Rattle.era_model.specs.declared.reply.Answer.{Answer}
use Rattle.era_model.specs.declared.reply.Answer.TheVariants.{Fault, Memory}
use Rattle.era_model.specs.declared.reply.Device.TheVariants.{Data}
use Rattle.era_model.specs.declared.command.Command.{Command}
use Rattle.era_model.specs.Commands.{events_of, answer_of}

-- Whether an answer says that memory was refused.
abbrev pub says_memory : Answer → Bool
says_memory Memory = true
says_memory answer = false

-- Whether one of the commands was answered that memory was refused.
abbrev pub some_says_memory : List Happening → List Command → Bool
some_says_memory h commands = list_any (λ command. says_memory (answer_of (events_of h command.id))) commands

-- The last of the commands was answered with a fault of the origin, which tells this count.
pub record EndInFault (h : List Happening) (commands : List Command) (count : ℕ) : Type 0 where
  pub before : List Command
  pub last : Command
  pub among : commands ≡ before ++ last ∷ []
  pub answer : answer_of (events_of h last.id) ≡ Fault Data count
