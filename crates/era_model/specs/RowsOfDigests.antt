-- A small session that shows digests.
use Rattle.std.specs.Prelude.{List, [], ◌∷◌, ◌++◌, None, Some}
use Rattle.era_model.specs.declared.event.Event.{Event}
use Rattle.era_model.specs.declared.history.Happening.{Happening}
use Rattle.era_model.specs.declared.journal.Journal.{Journal}
use Rattle.era_model.specs.declared.event.Event.TheVariants.{Roll, Digest, Refused}
use Rattle.era_model.specs.declared.event.Kind.TheVariants.{Digest as DigestKind}
use Rattle.era_model.specs.declared.event.Why.TheVariants.{Idle}
use Rattle.era_model.specs.declared.command.Command.{Command}
use Rattle.era_model.specs.declared.command.Request.TheVariants.{Checkpoint, Digest as DigestRequest}
use Rattle.era_model.specs.declared.command.Task.TheVariants.{Write, Ask}
use Rattle.era_model.specs.Rows.{command_at, first_lane, history_of, journal_of, sector_of, small_opening}
use Rattle.era_model.specs.RowsOfWrites.{marked_write}

-- A write, an era switch, a digest that transcribes the block's page, one that drops the set, and one that finds none.
abbrev pub digested_events : List Event
digested_events =
    marked_write (first_lane 0) 5 1 170
    ++ Roll (first_lane 1) 2 ∷ Digest (first_lane 2) 1 (Some 0) ∷ Digest (first_lane 3) 1 None
    ∷ Refused (first_lane 4) DigestKind Idle ∷ []

-- The same, but the set is dropped before the block's page is transcribed.
abbrev pub early_drop_events : List Event
early_drop_events =
    marked_write (first_lane 0) 5 1 170
    ++ Roll (first_lane 1) 2 ∷ Digest (first_lane 2) 1 None ∷ Digest (first_lane 3) 1 (Some 0)
    ∷ Refused (first_lane 4) DigestKind Idle ∷ []

-- The commands of this session.
abbrev pub digested_commands : List Command
digested_commands =
    command_at 1 (first_lane 0) (Write 40 (sector_of 170)) ∷ command_at 2 (first_lane 1) (Ask Checkpoint)
    ∷ command_at 3 (first_lane 2) (Ask DigestRequest) ∷ command_at 4 (first_lane 3) (Ask DigestRequest)
    ∷ command_at 5 (first_lane 4) (Ask DigestRequest) ∷ []

-- The history of the session after `digested_events`.
abbrev pub digested_history : List Happening
digested_history = history_of (small_opening 4 []) digested_events

-- The journal of `digested_events`.
abbrev pub digested_journal : Journal
digested_journal = journal_of (small_opening 4 []) digested_events

-- The journal of `early_drop_events`.
abbrev pub early_drop_journal : Journal
early_drop_journal = journal_of (small_opening 4 []) early_drop_events
