-- Digesting marks: one step by its rule, and the entries that it changes.
use Rattle.std.specs.Prelude.{◌≡◌, ℕ, ◌*◌, List, ◌∷◌, take, drop, Option, Some, None}
use Rattle.era_base.specs.Bits.{bit_of_words}
use Rattle.era_base.specs.Flags.{has}
use Rattle.era_model.specs.Digest.{digest_of, digested}
use Rattle.era_model.specs.Marks.{ArchivedSet, BlockMarks}
use Rattle.era_model.specs.Validity.{AreValidMarks}

-- The digest step of the marks is this one: the oldest archived set's era, and the page of the era array that is transcribed, or none where the set is dropped.
abbrev pub IsDigest : BlockMarks → ℕ → Option ℕ → Type 0
IsDigest m era page = digest_of m.archive m.array ≡ Some (era, page)

-- The marks have a digest step left: some set is archived.
abbrev pub HasStep : BlockMarks → Type 0
HasStep m = (era : ℕ) × (page : Option ℕ) × IsDigest m era page

-- The marks after a digest step that may have nothing to do.
abbrev pub digested_by : BlockMarks → Option (ℕ × Option ℕ) → BlockMarks
digested_by m None = m
digested_by m (Some step) = digested m step.1

-- The marks after one digest step by its rule.
abbrev pub after_digest : BlockMarks → BlockMarks
after_digest m = digested_by m (digest_of m.archive m.array)

-- The entries of a page of 1,024 blocks of the era array; the last page may have fewer.
abbrev pub entries_of_page : List ℕ → ℕ → List ℕ
entries_of_page array page = take 1024 (drop (1024 * page) array)

-- A page was transcribed by a digest step, and these were its entries before.
pub record WasTranscribed (page : ℕ) (saved : List ℕ) (before after : BlockMarks) : Type 0 where
  pub era : ℕ
  pub valid : AreValidMarks before
  pub step : IsDigest before era (Some page)
  pub is : after ≡ digested before (Some page)
  pub entries : saved ≡ entries_of_page before.array page

-- Words have the bits of the oldest archived set.
abbrev pub SayOldest : List ℕ → BlockMarks → Type 0
SayOldest words m = (oldest : ArchivedSet) (sets : List ArchivedSet) → m.archive ≡ oldest ∷ sets
    → (block : ℕ) → bit_of_words words block ≡ has oldest.blocks block

-- The oldest archived set was dropped by a digest step; it was of this era, and these words have its bits.
pub record WasDropped (era : ℕ) (words : List ℕ) (before after : BlockMarks) : Type 0 where
  pub valid : AreValidMarks before
  pub step : IsDigest before era None
  pub is : after ≡ digested before None
  pub bits : SayOldest words before
