-- Which command the words of the program are, and what they ask for.
use Rattle.std.specs.Prelude.{◌≡◌, List, [], ◌∷◌, map, string_bytes}
use Rattle.std.specs.declared.alloc.Global.{Global}
use Rattle.std.specs.declared.string.String.{String}
use Rattle.clap.specs.Words.{Text, fault_of, matches_of}
use Rattle.era_words.specs.declared.command_name.CommandName.{CommandName}
use Rattle.era_words.specs.declared.job.Job.{Job}
use Rattle.era_words.specs.Commands.{app_for}
use Rattle.era_words.specs.Jobs.{AskFor}
use Rattle.era_words.specs.Names.{word_of}

-- Words as the texts that they are.
abbrev pub texts_of : List (String Global) → List Text
texts_of words = map string_bytes words

-- The words begin with this one.
abbrev pub BeginWith : List Text → Text → Type 0
BeginWith [] first = ⊥
BeginWith (word ∷ rest) first = word ≡ first

-- The words begin with no command's name.
abbrev pub NameNoCommand : List Text → Type 0
NameNoCommand words = (name : CommandName) → BeginWith words (word_of name) → ⊥

-- The words are this command: its name, and then arguments that `clap` takes for it, whose values ask for this job.
pub record IsCommand (name : CommandName) (words : List Text) (job : Job) : Type 0 where
  pub first : BeginWith words (word_of name)
  pub taken : fault_of (app_for name) words ≡ []
  pub asked : AskFor name (matches_of (app_for name) words) job

-- The words ask for this job: they are a command that does.
abbrev pub IsJob : List Text → Job → Type 0
IsJob words job = (name : CommandName) × IsCommand name words job

-- The words are no command, whatever it would be asked to do.
abbrev pub IsNoJob : List Text → Type 0
IsNoJob words = (job : Job) → IsJob words job → ⊥
