-- The arguments of each command.
use Rattle.std.specs.Prelude.{List, [], ◌∷◌, codes}
use Rattle.clap.specs.Words.{App, Rule}
use Rattle.era_words.specs.declared.command_name.CommandName.{CommandName}
use Rattle.era_words.specs.declared.command_name.CommandName.TheVariants.{Serve, Load, Need, Invalidate, Check}
use Rattle.era_words.specs.declared.command_name.CommandName.TheVariants.{Dump, Restore, Backup, Apply}
use Rattle.era_words.specs.Names.{word_of}
use Rattle.era_words.specs.Rules.{command, positional, required_option, option_or, flag}

-- The arguments of a command, the positional ones in their order.
abbrev pub rules_of : CommandName → List Rule
rules_of Serve = positional (codes "line") ∷ option_or (codes "stripes") (codes "4") ∷ option_or (codes "digest") (codes "0") ∷ []
rules_of Load = positional (codes "line") ∷ positional (codes "seed") ∷ option_or (codes "stripes") (codes "4") ∷ []
rules_of Need = positional (codes "sectors") ∷ positional (codes "block-size") ∷ []
rules_of Invalidate = positional (codes "meta") ∷ required_option (codes "written-since") ∷ flag (codes "metadata-snapshot") ∷ []
rules_of Check = positional (codes "meta") ∷ []
rules_of Dump = positional (codes "meta") ∷ flag (codes "logical") ∷ []
rules_of Restore = positional (codes "meta") ∷ []
rules_of Backup = positional (codes "meta") ∷ positional (codes "origin") ∷ required_option (codes "written-since") ∷ []
rules_of Apply = positional (codes "origin") ∷ []

-- A command with its arguments, as `clap` reads them.
abbrev pub app_for : CommandName → App
app_for name = command (word_of name) (rules_of name)
