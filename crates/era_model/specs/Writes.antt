-- Writes in flight, and the content of one block.
use Rattle.std.specs.Prelude.{ℕ, ◌+◌, ◌*◌, ◌==◌, ◌&&◌, ◌||◌, not, nat_lt, nat_le, Bool, true, false, List, [], ◌∷◌, length, take, drop, filter, find, Option, Some, None, if◌then◌else◌}
use Rattle.era_base.specs.Bytes.{splice}
use Rattle.era_base.specs.declared.ids.CmdId.{CmdId}
pub use Rattle.era_model.specs.declared.flight.FlightWrite.{FlightWrite}
use Rattle.era_model.specs.Events.{same_id}

-- The writes but for that of the command.
abbrev pub without : List FlightWrite → CmdId → List FlightWrite
without writes id = filter (λ write. not (same_id write.id id)) writes

-- The writes, with that of the command cut.
abbrev pub with_cut : List FlightWrite → CmdId → List FlightWrite
with_cut [] id = []
with_cut (write ∷ writes) id = (if same_id write.id id then record write { cut = true } else write) ∷ with_cut writes id

-- The write of the command, where it is among them.
abbrev pub write_of : List FlightWrite → CmdId → Option FlightWrite
write_of writes id = find (λ write. same_id write.id id) writes

-- Whether the command's write is among them, and isn't cut.
abbrev pub is_writing : List FlightWrite → CmdId → Bool
is_writing [] id = false
is_writing (write ∷ writes) id = (same_id write.id id && not write.cut) || is_writing writes id

-- Whether the command's write is among them, and is cut.
abbrev pub is_cut : List FlightWrite → CmdId → Bool
is_cut [] id = false
is_cut (write ∷ writes) id = (same_id write.id id && write.cut) || is_cut writes id

-- Whether one of them is of a block that passes the test.
abbrev pub some_block : List FlightWrite → (ℕ → Bool) → Bool
some_block [] test = false
some_block (write ∷ writes) test = test write.block || some_block writes test

-- Whether a byte of a block lies in the range of the write.
abbrev pub writes_byte : FlightWrite → ℕ → ℕ → Bool
writes_byte write block offset =
    write.block == block && (nat_le (write.first * 512) offset && nat_lt offset (write.first * 512 + length write.bytes))

-- Whether a byte of a block lies in the range of one of the writes.
abbrev pub is_written_at : List FlightWrite → ℕ → ℕ → Bool
is_written_at [] block offset = false
is_written_at (write ∷ writes) block offset = writes_byte write block offset || is_written_at writes block offset

-- Whether a byte of a block lies in the range of a cut write.
abbrev pub is_cut_at : List FlightWrite → ℕ → ℕ → Bool
is_cut_at [] block offset = false
is_cut_at (write ∷ writes) block offset = (write.cut && writes_byte write block offset) || is_cut_at writes block offset

-- The bytes that the command wrote, none where it has no write among them.
abbrev pub bytes_of : Option FlightWrite → List ℕ
bytes_of None = []
bytes_of (Some write) = write.bytes

-- The content of a block after bytes were written to the range of a write: they replace the block's own bytes there, and all others stay. A write of another block changes nothing.
abbrev pub content_after_write : List ℕ → ℕ → Option FlightWrite → List ℕ → List ℕ
content_after_write content block None bytes = content
content_after_write content block (Some write) bytes =
    if write.block == block then splice content (write.first * 512) bytes else content

-- The bytes of a block of so many sectors in the origin's contents. The last block may be short, and a block that isn't there has none.
abbrev pub block_bytes : ℕ → List ℕ → ℕ → List ℕ
block_bytes block_sectors contents block = take (block_sectors * 512) (drop (block * block_sectors * 512) contents)
