-- Which counts of faults rose, by how a run ended.
use Rattle.std.specs.Prelude.{◌≡◌, ℕ, Option, Some, None}
use Rattle.era_base.specs.Faults.{Rose}
use Rattle.era_tools.specs.Printing.{HasSinkCause}
use Rattle.era_tools.specs.declared.status.Status.{Status}
use Rattle.era_tools.specs.declared.status.Status.TheVariants.{Fault, Source, Sink}

-- The counts that rose where a run ended so.
abbrev pub HasRiseFor : Status → ℕ → ℕ → ℕ → ℕ → ℕ → ℕ → Type 0
HasRiseFor Fault source source' sink sink' disk disk' = Rose disk disk'
HasRiseFor Source source source' sink sink' disk disk' = Rose source source'
HasRiseFor Sink source source' sink sink' disk disk' = Rose sink sink'
HasRiseFor status source source' sink sink' disk disk' = Unit {0}

-- The counts that rose at a round of a session: the sink's exactly where the session ended by its failure there, and the disk's where it ended by a fault; where the session goes on, none.
abbrev pub HasAnswerCause : Option Status → ℕ → ℕ → ℕ → ℕ → Type 0
HasAnswerCause None sink sink' disk disk' = (sink' ≡ sink) × (disk' ≡ disk)
HasAnswerCause (Some status) sink sink' disk disk' = HasSinkCause sink sink' status × (status ≡ Fault → Rose disk disk') × (status ≡ Source → ⊥)
