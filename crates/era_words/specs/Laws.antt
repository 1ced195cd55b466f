-- What holds of all words, and a small target for examples.
use Rattle.std.specs.Prelude.{◌≡◌, List, codes}
use Rattle.clap.specs.Words.{Text}
use Rattle.era_line.specs.declared.table_line.TableLine.{TableLine}
use Rattle.era_words.specs.declared.job.Job.{Job}
use Rattle.era_words.specs.Words.{IsJob}

-- Words ask for one job at most.
abbrev pub AskForOneJob : Type 0
AskForOneJob = (words : List Text) (job job' : Job) → IsJob words job → IsJob words job' → job ≡ job'

-- What the table line `0 8 era m o 8` says.
abbrev pub small_target : TableLine
small_target = record { length = 8; meta = codes "m"; origin = codes "o"; block_sectors = 8 }
