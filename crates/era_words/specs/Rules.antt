-- The kinds of arguments that a command has, and a command of such arguments alone, as `clap` reads them.
use Rattle.std.specs.Prelude.{List, [], ◌∷◌, Some, true}
use Rattle.clap.specs.Words.{App, Rule, Text, new_app, new_rule}
use Rattle.clap.specs.declared.builder.action.ArgAction.TheVariants.{Set, SetTrue}

-- A command of this name with these arguments and no others, not even a flag for help.
abbrev pub command : Text → List Rule → App
command name rules =
    let empty = new_app name in
    record empty { top = record empty.top { disable_help_flag = true; rules = rules } }

-- A word that is told from others by its place, and has to be there.
abbrev pub positional : Text → Rule
positional id = record (new_rule id) { action = Some Set; required = true }

-- An option that has to be given, with a value.
abbrev pub required_option : Text → Rule
required_option id = record (new_rule id) { long = Some id; action = Some Set; required = true }

-- An option with a value, and the value that it has where it isn't given.
abbrev pub option_or : Text → Text → Rule
option_or id value = record (new_rule id) { long = Some id; action = Some Set; defaults = value ∷ [] }

-- A flag, which has no value.
abbrev pub flag : Text → Rule
flag id = record (new_rule id) { long = Some id; action = Some SetTrue }
