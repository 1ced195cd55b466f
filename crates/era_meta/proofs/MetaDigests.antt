-- Digest steps of the metadata: the geometry stays, and what a step by the rule is.
use Rattle.std.proofs.Common.{◌≡◌, ℕ, List, [], ◌∷◌, Option, Some, None, refl, sym, ap, ◌∙◌}
use Rattle.era_model.specs.Digest.{digest_of, digested, digested_from}
use Rattle.era_model.specs.Marks.{ArchivedSet, BlockMarks}
use Rattle.era_meta.specs.Digesting.{IsDigest, after_digest, digested_by}

from-sectors : (m : BlockMarks) (sets : List ArchivedSet) (page : Option ℕ) → (digested_from m sets page).sectors ≡ m.sectors
from-sectors m [] page = refl
from-sectors m (oldest ∷ sets) None = refl
from-sectors m (oldest ∷ sets) (Some page) = refl

from-size : (m : BlockMarks) (sets : List ArchivedSet) (page : Option ℕ) → (digested_from m sets page).block_sectors ≡ m.block_sectors
from-size m [] page = refl
from-size m (oldest ∷ sets) None = refl
from-size m (oldest ∷ sets) (Some page) = refl

-- marks after a digest are of the same geometry
pub digested-sectors : (m n : BlockMarks) (page : Option ℕ) → n ≡ digested m page → n.sectors ≡ m.sectors
digested-sectors m n page is = ap (λ (x : BlockMarks). x.sectors) is ∙ from-sectors m m.archive page

pub digested-size : (m n : BlockMarks) (page : Option ℕ) → n ≡ digested m page → n.block_sectors ≡ m.block_sectors
digested-size m n page is = ap (λ (x : BlockMarks). x.block_sectors) is ∙ from-size m m.archive page

-- the step by the rule
pub after-is : (m : BlockMarks) (era : ℕ) (page : Option ℕ) → IsDigest m era page → digested m page ≡ after_digest m
after-is m era page is = sym (ap (digested_by m) is)

pub after-none : (m : BlockMarks) → digest_of m.archive m.array ≡ None → m ≡ after_digest m
after-none m is = sym (ap (digested_by m) is)
