-- A session and a load want a table line.
use Rattle.std.proofs.Common.{List}
use Rattle.std.specs.Prelude.{codes}
use Rattle.clap.specs.Words.{Row}
use Rattle.era_line.specs.declared.table_line.TableLine.{TableLine}
use Rattle.era_words.specs.declared.command_name.CommandName.TheVariants.{Serve, Load}
use Rattle.era_words.specs.declared.job.Job.TheVariants as job
use Rattle.era_words.specs.Jobs.{HasTable, AskForNothing}

-- without one there is no session
pub no_session : (rows : List Row) → ((line : TableLine) → HasTable rows (codes "line") line → ⊥) → AskForNothing Serve rows
no_session rows none (job.Serve line stripes digest) asked = none line asked.target
no_session rows none other asked = asked

-- without one there is no load
pub no_load : (rows : List Row) → ((line : TableLine) → HasTable rows (codes "line") line → ⊥) → AskForNothing Load rows
no_load rows none (job.Load line seed stripes) asked = none line asked.target
no_load rows none other asked = asked
