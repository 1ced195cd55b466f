-- An era switch in memory: the marks with the current set archived, and the parts that stand then.
use Rattle.std.proofs.Common.{◌≡◌, ℕ, ◌+◌, ◌≤◌, Bool, true, false, List, [], ◌∷◌, ◌++◌, length, replicate, refl, ap, sym, subst, arith}
use Rattle.std.specs.Prelude.{nat_lt, if◌then◌else◌}
use Rattle.std.specs.List.{AllByRecursion}
use Rattle.std.proofs.lemmas.Bool.Decides.{nat_tests}
use Rattle.std.proofs.lemmas.List.{length_push}
use Rattle.era_model.specs.Marks.{ArchivedSet, BlockMarks, blocks_of_marks, rolled, with_current_archived, with_oldest_merged}
use Rattle.era_model.specs.Validity.{AreValidMarks}
use Rattle.era_model.specs.MarkLaws.{SwitchKeepsMarks}
use Rattle.era_meta.specs.LiveParts.{AreLiveParts, MakesRoom}

-- the marks with these parts in place of their array and archive, and with the current set archived
abbrev pub switched : BlockMarks → List ℕ → List ArchivedSet → BlockMarks
switched m array archive = record {
  sectors = m.sectors;
  block_sectors = m.block_sectors;
  era = m.era + 1;
  array = array;
  archive = archive ++ record { era = m.era; blocks = m.current } ∷ [];
  current = replicate (length m.current) false;
}

abbrev rolled-by : BlockMarks → Bool → BlockMarks
rolled-by m flag = with_current_archived (if flag then m else with_oldest_merged m m.archive)

few-sets : (m : BlockMarks) (array : List ℕ) (archive : List ArchivedSet) → (array ≡ m.array) × (archive ≡ m.archive)
    → switched m array archive ≡ rolled-by m true
few-sets m array archive same = rw (same.0, same.1) refl

full-sets : (m : BlockMarks) (array : List ℕ) (archive sets : List ArchivedSet) → MakesRoom m.array array m.archive archive → m.archive ≡ sets
    → 16 ≤ length m.archive → switched m array archive ≡ rolled-by m false
full-sets m array archive [] room is full = absurd (let e = ap length is in omega arith)
full-sets m array archive (oldest ∷ sets) room is full = let same = room.full oldest sets is full in rw (same.0, same.1, is) refl

pub switched-rolled : (m : BlockMarks) (array : List ℕ) (archive : List ArchivedSet) → MakesRoom m.array array m.archive archive → switched m array archive ≡ rolled m
switched-rolled m array archive room = elim (nat_lt (length m.archive) 16) as (λ flag. nat_lt (length m.archive) 16 ≡ flag → switched m array archive ≡ rolled-by m flag) [
  | true ↦ λ few. few-sets m array archive (room.few (grind (arith, nat_tests)))
  | false ↦ λ full. full-sets m array archive m.archive room refl (grind (arith, nat_tests))
] refl

pub switched-parts : (m : BlockMarks) (spare : List ArchivedSet) (array : List ℕ) (archive : List ArchivedSet) → SwitchKeepsMarks m
    → MakesRoom m.array array m.archive archive → AllByRecursion (λ set. length set.blocks ≡ blocks_of_marks m) spare → length archive + 1 + length spare ≡ 16
    → AreLiveParts (switched m array archive) spare
switched-parts m spare array archive keeps room sizes sets = record {
  valid = subst AreValidMarks (sym (switched-rolled m array archive room)) keeps.valid;
  sizes = sizes;
  sets = let more = length_push archive (record { era = m.era; blocks = m.current }) in omega arith;
}
