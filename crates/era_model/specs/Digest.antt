-- Digesting: the oldest archived set is merged into the era array, a page of the array at a time, and then dropped.
use Rattle.std.specs.Prelude.{ℕ, ◌+◌, ◌/◌, ◌==◌, ◌&&◌, not, Bool, List, [], ◌∷◌, Option, Some, None, option_map, if◌then◌else◌}
use Rattle.era_model.specs.Marks.{ArchivedSet, BlockMarks, entry_of, transcribed}

-- The first block of the set, counted from a block on, whose array entry is another era than the set's, or none.
abbrev pub first_untranscribed : ℕ → List Bool → List ℕ → ℕ → Option ℕ
first_untranscribed era [] array block = None
first_untranscribed era (flag ∷ flags) array block =
    if flag && not (entry_of array block == era) then Some block else first_untranscribed era flags array (block + 1)

-- What a digest does with the archived sets: the oldest one's era, and the least page of 1,024 blocks that has a block to transcribe, or none where the set can be dropped. Nothing where no set is archived.
abbrev pub digest_of : List ArchivedSet → List ℕ → Option (ℕ × Option ℕ)
digest_of [] array = None
digest_of (oldest ∷ sets) array =
    Some (oldest.era, option_map (λ block. block / 1024) (first_untranscribed oldest.era oldest.blocks array 0))

-- The marks after a digest of the archived sets: the blocks of the page that are in the oldest set have its era as their array entry, or the oldest set is dropped.
abbrev pub digested_from : BlockMarks → List ArchivedSet → Option ℕ → BlockMarks
digested_from m [] page = m
digested_from m (oldest ∷ sets) None = record m { archive = sets }
digested_from m (oldest ∷ sets) (Some page) =
    record m { array = transcribed oldest (λ block. block / 1024 == page) 0 m.array }

-- The marks after a digest.
abbrev pub digested : BlockMarks → Option ℕ → BlockMarks
digested m page = digested_from m m.archive page
