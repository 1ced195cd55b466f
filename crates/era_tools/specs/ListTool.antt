-- What a list of blocks that were written tells, by marks and their snapshot.
use Rattle.std.specs.Prelude.{◌≡◌, ℕ, Bool, true, false, List, Option, None}
use Rattle.era_model.specs.Conditions.{ListsExactly, ListsSnapshot}
use Rattle.era_model.specs.Marks.{BlockMarks, blocks_of_marks, written_since}
use Rattle.era_tools.specs.declared.status.Status.{Status}
use Rattle.era_tools.specs.declared.status.Status.TheVariants.{Done, Memory, Refused}
use Rattle.era_tools.specs.Printing.{Prints}
use Rattle.era_tools.specs.ToolLines.{blocks_text, memory_line, no_snap_line}

-- A list tells blocks as runs, that no snapshot is held, or that memory was refused.
pub data Listed : Type 0 where
  Blocks : (runs : List (ℕ × ℕ)) → Listed
  NoSnapshot : Listed
  NoMemory : Listed

-- What is told is so: exactly the blocks that were marked in the era or a later one, by the marks or by the snapshot; or none is held, which is asked for. Memory may be refused at any time.
abbrev pub IsListed : BlockMarks → Option BlockMarks → ℕ → Bool → Listed → Type 0
IsListed marks held since false (Blocks runs) = ListsExactly (blocks_of_marks marks) (written_since marks since) runs
IsListed marks held since true (Blocks runs) = ListsSnapshot held since runs
IsListed marks held since false NoSnapshot = ⊥
IsListed marks held since true NoSnapshot = held ≡ None
IsListed marks held since snap NoMemory = Unit {0}

-- Its text.
abbrev pub listed_text : Listed → List ℕ
listed_text (Blocks runs) = blocks_text runs
listed_text NoSnapshot = no_snap_line
listed_text NoMemory = memory_line

-- The status that it ends with.
abbrev pub listed_status : Listed → Status
listed_status (Blocks runs) = Done
listed_status NoSnapshot = Refused
listed_status NoMemory = Memory

-- A list went so: what it tells is so, and its text was given.
pub record TellsList (marks : BlockMarks) (held : Option BlockMarks) (since : ℕ) (snap : Bool) (given given' : Option (List ℕ)) (result : Status) : Type 0 where
  pub told : Listed
  pub right : IsListed marks held since snap told
  pub printed : Prints given given' (listed_text told) (listed_status told) result
