-- What a dump gives, and how it ends.
use Rattle.std.specs.Prelude.{◌≡◌, ◌⊎◌, ℕ, List, ◌++◌, Option, Some}
use Rattle.era_base.specs.Streams.{GivesFront}
use Rattle.era_model.specs.Marks.{BlockMarks}
use Rattle.era_text.specs.Written.{GivesPart, GivesWhole}
use Rattle.era_tools.specs.declared.status.Status.{Status}
use Rattle.era_tools.specs.declared.status.Status.TheVariants.{Done, Memory, Sink}
use Rattle.era_tools.specs.ToolLines.{memory_line}

-- What was given behind what was given before, by how the run ended: the dump of marks; that memory was refused, and nothing of the dump; or a front of one of these.
abbrev pub GivesDumpLine : BlockMarks → List ℕ → Option (List ℕ) → Status → Type 0
GivesDumpLine m before given' Done = GivesWhole m before given'
GivesDumpLine m before given' Memory = given' ≡ Some (before ++ memory_line)
GivesDumpLine m before given' Sink = GivesPart m before given' ⊎ GivesFront before memory_line given'
GivesDumpLine m before given' status = ⊥

-- A run that gives the dump of marks ends by these alone.
abbrev pub EndsDump : Status → Type 0
EndsDump result = (result ≡ Done) ⊎ ((result ≡ Memory) ⊎ (result ≡ Sink))

-- The dump of marks was given, or less of it, and the run ended so.
pub record PrintsDump (m : BlockMarks) (given given' : Option (List ℕ)) (result : Status) : Type 0 where
  pub ends : EndsDump result
  pub told : (before : List ℕ) → given ≡ Some before → GivesDumpLine m before given' result
