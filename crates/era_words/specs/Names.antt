-- The first words of the commands.
use Rattle.std.specs.Prelude.{◌≢◌, ℕ, List, codes}
use Rattle.era_words.specs.declared.command_name.CommandName.{CommandName}
use Rattle.era_words.specs.declared.command_name.CommandName.TheVariants.{Serve, Load, Need, Invalidate, Check}
use Rattle.era_words.specs.declared.command_name.CommandName.TheVariants.{Dump, Restore, Backup, Apply}

-- The word that names a command.
abbrev pub word_of : CommandName → List ℕ
word_of Serve = codes "serve"
word_of Load = codes "load"
word_of Need = codes "need"
word_of Invalidate = codes "invalidate"
word_of Check = codes "check"
word_of Dump = codes "dump"
word_of Restore = codes "restore"
word_of Backup = codes "backup"
word_of Apply = codes "apply"

-- A word names no command.
abbrev pub IsNoName : List ℕ → Type 0
IsNoName word = (name : CommandName) → word ≢ word_of name
