-- The opening of a small first session is legal, and so is each event of a small session at its place.
use Rattle.std.proofs.Common.{◌≡◌, ℕ, zero, suc, ◌+◌, ◌*◌, ◌<◌, ◌≤◌, false, List, [], ◌∷◌, ◌++◌, length, slice_index, replicate, refl, sym, lit≤, arith}
use Rattle.std.proofs.lemmas.List.{get_or_append_left}
use Rattle.era_base.specs.Flags.{has}
use Rattle.era_model.specs.declared.history.Happening.TheVariants.{Opened}
use Rattle.era_model.specs.Legal.{IsLegal}
use Rattle.era_model.specs.Marks.{no_marks, entry_of}
use Rattle.era_model.specs.Rows.{small_opening}
use Rattle.era_model.specs.Validity.{AreValidMarks}

-- an array without entries has none
pub entry_of-zeros : (n block : ℕ) → entry_of (replicate n 0) block ≡ 0
entry_of-zeros zero block = refl
entry_of-zeros (suc n) zero = refl
entry_of-zeros (suc n) (suc block) = entry_of-zeros n block

-- an empty set has no block
pub has-none : (n block : ℕ) → has (replicate n false) block ≡ false
has-none zero block = refl
has-none (suc n) zero = refl
has-none (suc n) (suc block) = has-none n block

-- marks of no block are valid in era 1
pub valid-no_marks : AreValidMarks (no_marks 512 8 1)
valid-no_marks = record {
  begun = lit≤ tt;
  array_size = refl;
  current_size = refl;
  archive = tt;
  few_sets = lit≤ tt;
  entries = λ block. rw (entry_of-zeros 64 block) (lit≤ tt);
}

-- a small session with a number of stripes from 1 to 16 opens legally
pub legal-small_opening : (stripes : ℕ) (contents : List ℕ) → 1 ≤ stripes → stripes ≤ 16 → IsLegal (Opened (small_opening stripes contents) ∷ [])
legal-small_opening stripes contents some few = (
  record {
    valid = valid-no_marks;
    sectors = refl;
    block_sectors = refl;
    era = refl;
    held = tt;
    some_stripe = some;
    few_stripes = few;
  },
  tt,
)

-- a read of the front of a list
pub index-front : (front back : List ℕ) (offset : ℕ) → offset < length front → slice_index front offset ≡ slice_index (front ++ back) (0 * 512 + offset)
index-front front back offset within =
    let same : 0 * 512 + offset ≡ offset = omega arith in rw same (sym (get_or_append_left front back 0 offset within))
