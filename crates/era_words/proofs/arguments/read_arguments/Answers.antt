use Rattle.clap.specs.Words.{app_of}
use Rattle.era_words.proofs.Simple.{simple}
use Rattle.era_words.proofs.arguments.read_arguments.Goals as goal

-- a command that is simple and has free rules is simple
pub returns-in-Ok-clause-given : goal.returns-in-Ok-clause-given
returns-in-Ok-clause-given c = (c.in-Ok.ensures.matches (simple (app_of c.args.command) c.requires)).0
