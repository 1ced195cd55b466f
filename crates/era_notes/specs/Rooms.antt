-- Entries in the chunks in which the memory for them came, and the buffers of a command.
use Rattle.std.specs.Prelude.{ℕ, ◌-◌, ◌≤◌, List, [], ◌++◌, Option, Some, None, vec_len, vec_capacity}
use Rattle.era_model.specs.declared.entry.Entry.{Entry}
use Rattle.era_notes.specs.declared.chunks.Chunks.{Chunks}
use Rattle.era_notes.specs.declared.chunks.Chunks.TheVariants.{Start, After'}
use Rattle.era_notes.specs.declared.buffers.Buffers.{Buffers}

-- The entries in order.
abbrev pub entries_in : Chunks → List Entry
entries_in Start = []
entries_in (After' entries link before) = entries_in before ++ entries.items

-- The entries of the last chunk, in order: those that were pushed since its room was admitted.
abbrev pub last_in : Chunks → List Entry
last_in Start = []
last_in (After' entries link before) = entries.items

-- How many entries the last chunk has room for.
abbrev pub free_in : Chunks → ℕ
free_in Start = 0
free_in (After' entries link before) = vec_capacity entries - vec_len entries

-- Buffers are there, and each has room for so many bytes.
abbrev pub HoldBytes : ℕ → Option Buffers → Type 0
HoldBytes count None = ⊥
HoldBytes count (Some buffers) = (count ≤ vec_len buffers.payload) × (count ≤ vec_len buffers.spare)
