-- The messages that a target takes.
use Rattle.std.specs.Prelude.{ℕ, List, codes}
use Rattle.era_line.specs.declared.message.Message.{Message}
use Rattle.era_line.specs.declared.message.Message.TheVariants.{Checkpoint, TakeSnap, DropSnap}

-- The word of a message.
abbrev pub word_of_message : Message → List ℕ
word_of_message Checkpoint = codes "checkpoint"
word_of_message TakeSnap = codes "take_metadata_snap"
word_of_message DropSnap = codes "drop_metadata_snap"
