-- A read of any bytes is legal where the contents of the origin aren't told, and of theirs alone with contents.
use Rattle.std.proofs.Common.{◌≡◌, ℕ, ◌+◌, ◌*◌, ◌<◌, Option, List, [], ◌∷◌, ◌++◌, length, slice_index, Some, None, refl, ap, sym, lit<, lit≤}
use Rattle.era_model.specs.declared.contents.Contents.{Contents}
use Rattle.era_model.specs.declared.history.Happening.TheVariants.{Opened}
use Rattle.era_model.specs.declared.opening.Opening.{Opening}
use Rattle.era_model.specs.Journal.{with_contents}
use Rattle.era_model.specs.Legal.{IsLegal, IsLegalJournal}
use Rattle.era_model.specs.Rows.{sector_of, small_opening, zeros}
use Rattle.era_model.specs.RowsOfRecoveries.{untold_journal}
use Rattle.era_model.proofs.SmallOpening.{index-front, valid-no_marks}

-- the opening with any contents, or none
abbrev opening-with : Option (List ℕ) → Opening
opening-with known = record (small_opening 4 []) { contents = record { bytes = known } }

-- is legal
legal-opening : (known : Option (List ℕ)) → IsLegal (Opened (opening-with known) ∷ [])
legal-opening known = (
  record {
    valid = valid-no_marks;
    sectors = refl;
    block_sectors = refl;
    era = refl;
    held = tt;
    some_stripe = lit≤ tt;
    few_stripes = lit≤ tt;
  },
  tt,
)

-- no contents are told
pub legal-untold : IsLegalJournal untold_journal
legal-untold = record {
  numbered = (refl, tt);
  legal = (
    refl,
    record { whole = refl; block = 0; first = 0; place = refl; same = λ known. absurd (cc) },
    legal-opening None,
  );
}

-- the contents are those that are read
pub legal-told : IsLegalJournal (with_contents untold_journal (sector_of 85))
legal-told = record {
  numbered = (refl, tt);
  legal = (
    refl,
    record { whole = refl; block = 0; first = 0; place = refl; same = λ known offset within clear. index-front (sector_of 85) [] offset within },
    legal-opening (Some (sector_of 85)),
  );
}

-- the block of a place, and its sector
abbrev block-in : Option (ℕ × ℕ) → ℕ
block-in None = 0
block-in (Some place) = place.0

abbrev sector-in : Option (ℕ × ℕ) → ℕ
sector-in None = 0
sector-in (Some place) = place.1

-- the contents are others
pub illegal-other : IsLegalJournal (with_contents untold_journal zeros) → ⊥
illegal-other journal =
    let read = journal.legal.1 in
    let block : read.block ≡ 0 = sym (ap block-in read.place) in
    let sector : read.first ≡ 0 = sym (ap sector-in read.place) in
    let first = rw (block, sector) at (read.same refl 0 (lit< tt) refl) in cc
