-- A block that no write in flight is of: what happens to it, and what a crash may leave of it.
use Rattle.std.proofs.Common.{◌≡◌, ℕ, Bool, true, false, not, ◌==◌, ◌||◌, List, [], ◌∷◌, Some, refl}
use Rattle.std.specs.Prelude.{if◌then◌else◌}
use Rattle.std.proofs.lemmas.Bool.{or_parts, or_from, cond_both}
use Rattle.std.proofs.lemmas.Grind.{same_number_lists}
use Rattle.era_base.specs.declared.ids.CmdId.{CmdId}
use Rattle.era_model.specs.declared.history.Happening.{Happening}
use Rattle.era_model.specs.Changed.{IsCrashContent}
use Rattle.era_model.specs.Events.{same_id}
use Rattle.era_model.specs.History.{content, in_flight}
use Rattle.era_model.specs.Writes.{FlightWrite, without, with_cut, write_of, writes_byte, is_written_at, content_after_write}

-- whether one of the writes is of the block
abbrev pub touches : List FlightWrite → ℕ → Bool
touches [] block = false
touches (write ∷ writes) block = write.block == block || touches writes block

-- fewer writes touch no more
pub touches-without : (writes : List FlightWrite) (id : CmdId) (block : ℕ) → touches writes block ≡ false → touches (without writes id) block ≡ false
touches-without [] id block quiet = refl
touches-without (write ∷ writes) id block quiet =
    let parts = or_parts (write.block == block) (touches writes block) quiet in
    let rest = touches-without writes id block parts.1 in
    cond_both (not (same_id write.id id)) (write ∷ without writes id) (without writes id) (λ ws. touches ws block ≡ false)
    (λ kept. or_from (write.block == block) (touches (without writes id) block) parts.0 rest)
    (λ left. rest)

-- a write that is cut touches the same block
pub touches-with_cut : (writes : List FlightWrite) (id : CmdId) (block : ℕ) → touches (with_cut writes id) block ≡ touches writes block
touches-with_cut [] id block = refl
touches-with_cut (write ∷ writes) id block = rw (touches-with_cut writes id block) (elim (same_id write.id id) as (λ same. (((if same then record write { cut = true } else write).block == block) || touches writes block) ≡ (write.block == block || touches writes block)) [ true ↦ refl | false ↦ refl ])

-- a write among them is of another block
content-quiet : (writes : List FlightWrite) (id : CmdId) (block : ℕ) (before bytes : List ℕ) → touches writes block ≡ false → content_after_write before block (write_of writes id) bytes ≡ before
content-quiet [] id block before bytes quiet = refl
content-quiet (write ∷ writes) id block before bytes quiet =
    let parts = or_parts (write.block == block) (touches writes block) quiet in
    cond_both (same_id write.id id) (Some write) (write_of writes id) (λ found. content_after_write before block found bytes ≡ before)
    (λ same. rw parts.0 refl)
    (λ other. content-quiet writes id block before bytes parts.1)

-- what is written to the range of a write in flight leaves the content of a block that none is of
pub content-kept : (h : List Happening) (id : CmdId) (block : ℕ) (bytes : List ℕ) → touches (in_flight h) block ≡ false → content_after_write (content h block) block (write_of (in_flight h) id) bytes ≡ content h block
content-kept h id block bytes quiet = content-quiet (in_flight h) id block (content h block) bytes quiet

-- no byte of it is being written
pub unwritten-at : (writes : List FlightWrite) (block offset : ℕ) → touches writes block ≡ false → is_written_at writes block offset ≡ false
unwritten-at [] block offset quiet = refl
unwritten-at (write ∷ writes) block offset quiet =
    let parts = or_parts (write.block == block) (touches writes block) quiet in
    or_from (writes_byte write block offset) (is_written_at writes block offset) (rw parts.0 refl) (unwritten-at writes block offset parts.1)

-- a crash leaves its content
pub image-is_content : (h : List Happening) (block : ℕ) (image : List ℕ) → touches (in_flight h) block ≡ false → IsCrashContent h block image → image ≡ content h block
image-is_content h block image quiet possible =
    same_number_lists image (content h block) possible.size (λ offset within. possible.same offset (unwritten-at (in_flight h) block offset quiet))
