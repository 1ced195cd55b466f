-- Archived sets and the era array, one element more at a time.
use Rattle.std.proofs.Common.{◌≡◌, ℕ, zero, suc, ◌+◌, ◌<◌, ◌≤◌, Bool, true, false, All, List, [], ◌∷◌, ◌++◌, length, get_or, take, drop, replicate, refl, ap, sym, ◌∙◌, subst, arith}
use Rattle.std.specs.Prelude.{max, nat_lt, slice_set, if◌then◌else◌}
use Rattle.std.proofs.lemmas.Bool.Decides.{nat_tests}
use Rattle.std.proofs.lemmas.List.{drop_more, drop-set-lt, length-set, take_all, take_more, take_more_set, length_push}
use Rattle.era_base.specs.Flags.{has}
use Rattle.era_model.specs.Marks.{ArchivedSet, BlockMarks, blocks_of_marks, last_archived, rolled, transcribed, with_current_archived, with_oldest_merged}
use Rattle.era_model.specs.Validity.{AreArchivedBetween, AreValidMarks}
use Rattle.era_model.specs.MarkLaws.{SwitchKeepsMarks}
use Rattle.era_marks.specs.Parts.{AreParts}
use Rattle.era_marks.specs.Room.{MakesRoom}

-- The first entries are merged with the set, and the others are as they were.
pub record IsMerging (set : ArchivedSet) (before array : List ℕ) (block : ℕ) : Type 0 where
  pub front : take block array ≡ take block (transcribed set (λ b. true) 0 before)
  pub back : drop block array ≡ drop block before
  pub size : length array ≡ length before

length-transcribed : (set : ArchivedSet) (first : ℕ) (array : List ℕ) → length (transcribed set (λ b. true) first array) ≡ length array
length-transcribed set first [] = refl
length-transcribed set first (entry ∷ array) = ap suc (length-transcribed set (first + 1) array)

entry-from : (set : ArchivedSet) (first : ℕ) (array : List ℕ) (at : ℕ) → at < length array
    → get_or (transcribed set (λ b. true) first array) at 0 ≡ (if has set.blocks (first + at) then set.era else get_or array at 0)
entry-from set first [] at within = absurd (omega arith)
entry-from set first (entry ∷ array) zero within =
    ap (λ block. if has set.blocks block then set.era else entry) (let e : first ≡ first + 0 = omega arith in e)
entry-from set first (entry ∷ array) (suc at) within =
    entry-from set (first + 1) array at (omega arith)
    ∙ ap (λ block. if has set.blocks block then set.era else get_or array at 0) (let e : first + 1 + at ≡ first + suc at = omega arith in e)

-- an entry of the merged array
entry-merged : (set : ArchivedSet) (array : List ℕ) (at : ℕ) → at < length array
    → get_or (transcribed set (λ b. true) 0 array) at 0 ≡ (if has set.blocks at then set.era else get_or array at 0)
entry-merged set array at within = entry-from set 0 array at within ∙ ap (λ block. if has set.blocks block then set.era else get_or array at 0) (let e : 0 + at ≡ at = omega arith in e)

-- the entry at the present block, and those behind it
same-entry : (before array : List ℕ) (block : ℕ) → block < length before → length array ≡ length before → drop block array ≡ drop block before
    → (get_or array block 0 ≡ get_or before block 0) × (drop (block + 1) array ≡ drop (block + 1) before)
same-entry before array block within size same =
    let a = drop_more array block 0 (omega arith) in
    let b = drop_more before block 0 within in
    (cc (a, b, same), cc (a, b, same))

pub merging-start : (set : ArchivedSet) (array : List ℕ) → IsMerging set array array 0
merging-start set array = record { front = refl; back = refl; size = refl }

-- a block of the set gets the set's era
pub merging-has : (set : ArchivedSet) (before array : List ℕ) (block : ℕ) → IsMerging set before array block → block < length before → has set.blocks block ≡ true
    → IsMerging set before (slice_set array block set.era) (block + 1)
merging-has set before array block merging within is =
    let merged = transcribed set (λ b. true) 0 before in
    let entry : get_or merged block 0 ≡ set.era = rw is at (entry-merged set before block within) in
    let size = length-transcribed set 0 before in
    record {
      front = take_more_set array block set.era (let e = merging.size in omega arith)
          ∙ ap (λ front. front ++ set.era ∷ []) merging.front
          ∙ ap (λ last. take block merged ++ last ∷ []) (sym entry)
          ∙ sym (take_more merged block 0 (omega arith));
      back = drop-set-lt (block + 1) array block set.era (omega arith) ∙ (same-entry before array block within merging.size merging.back).1;
      size = length-set array block set.era ∙ merging.size;
    }

-- any other block keeps its entry
pub merging-other : (set : ArchivedSet) (before array : List ℕ) (block : ℕ) → IsMerging set before array block → block < length before → has set.blocks block ≡ false
    → IsMerging set before array (block + 1)
merging-other set before array block merging within is =
    let merged = transcribed set (λ b. true) 0 before in
    let entry : get_or merged block 0 ≡ get_or before block 0 = rw is at (entry-merged set before block within) in
    let same = same-entry before array block within merging.size merging.back in
    let size = length-transcribed set 0 before in
    record {
      front = take_more array block 0 (let e = merging.size in omega arith)
          ∙ ap (λ front. front ++ get_or array block 0 ∷ []) merging.front
          ∙ ap (λ last. take block merged ++ last ∷ []) (same.0 ∙ sym entry)
          ∙ sym (take_more merged block 0 (omega arith));
      back = same.1;
      size = merging.size;
    }

-- the whole array is merged
pub merging-end : (set : ArchivedSet) (before array : List ℕ) (block : ℕ) → IsMerging set before array block → length before ≤ block
    → array ≡ transcribed set (λ b. true) 0 before
merging-end set before array block merging past =
    let size = length-transcribed set 0 before in
    sym (take_all block array (let e = merging.size in omega arith))
    ∙ merging.front
    ∙ take_all block (transcribed set (λ b. true) 0 before) (omega arith)

-- one set more
last_archived-push : (sets : List ArchivedSet) (set : ArchivedSet) (block : ℕ)
    → last_archived (sets ++ set ∷ []) block ≡ max (last_archived sets block) (if has set.blocks block then set.era else 0)
last_archived-push [] set block = omega arith
last_archived-push (first ∷ sets) set block = let rest = last_archived-push sets set block in rw rest (omega arith)

-- the greatest era of the first sets that have a block, with one set more
pub last_archived-more : (sets : List ArchivedSet) (i block : ℕ) (d : ArchivedSet) → i < length sets
    → last_archived (take (i + 1) sets) block ≡ max (last_archived (take i sets) block) (if has (get_or sets i d).blocks block then (get_or sets i d).era else 0)
last_archived-more sets i block d within = ap (λ front. last_archived front block) (take_more sets i d within) ∙ last_archived-push (take i sets) (get_or sets i d) block

-- each archived set has a flag for each block
pub archived-size : (blocks above below : ℕ) (sets : List ArchivedSet) (i : ℕ) (d : ArchivedSet) → AreArchivedBetween blocks above below sets → i < length sets → length (get_or sets i d).blocks ≡ blocks
archived-size blocks above below [] i d archived within = absurd (omega arith)
archived-size blocks above below (set ∷ sets) zero d archived within = archived.2
archived-size blocks above below (set ∷ sets) (suc i) d archived within = archived-size blocks set.era below sets i d archived.3 (omega arith)

-- The marks with these parts in place of their array and archive, and with the current set archived.
abbrev pub switched : BlockMarks → List ℕ → List ArchivedSet → BlockMarks
switched m array archive = record {
  sectors = m.sectors;
  block_sectors = m.block_sectors;
  era = m.era + 1;
  array = array;
  archive = archive ++ record { era = m.era; blocks = m.current } ∷ [];
  current = replicate (length m.current) false;
}

-- The marks after the switch, by whether there was room before.
abbrev rolled-by : BlockMarks → Bool → BlockMarks
rolled-by m flag = with_current_archived (if flag then m else with_oldest_merged m m.archive)

-- with room for the current set, the marks switch to the next era
pub switched-rolled : (m : BlockMarks) (array : List ℕ) (archive : List ArchivedSet) → MakesRoom m.array array m.archive archive → switched m array archive ≡ rolled m
switched-rolled m array archive room = elim (nat_lt (length m.archive) 16) as (λ flag. nat_lt (length m.archive) 16 ≡ flag → switched m array archive ≡ rolled-by m flag) [
  | true ↦ λ few. few-sets (room.few (grind (arith, nat_tests)))
  | false ↦ λ full. full-sets m.archive refl (grind (arith, nat_tests))
] refl
  where
    few-sets : (array ≡ m.array) × (archive ≡ m.archive) → switched m array archive ≡ rolled-by m true
    few-sets same = rw (same.0, same.1) refl

    full-sets : (sets : List ArchivedSet) → m.archive ≡ sets → 16 ≤ length m.archive → switched m array archive ≡ rolled-by m false
    full-sets [] is full = absurd (let e = ap length is in omega arith)
    full-sets (oldest ∷ sets) is full = let same = room.full oldest sets is full in rw (same.0, same.1, is) refl

-- and they are parts as before
pub switched-parts : (m : BlockMarks) (spare spare' : List ArchivedSet) (capacity : ℕ) (array : List ℕ) (archive : List ArchivedSet) → AreParts m spare capacity → SwitchKeepsMarks m
    → MakesRoom m.array array m.archive archive → All (λ set. length set.blocks ≡ blocks_of_marks m) spare' → length archive + 1 + length spare' ≡ 16
    → AreParts (switched m array archive) spare' capacity
switched-parts m spare spare' capacity array archive parts keeps room sizes sets = record {
  valid = subst AreValidMarks (sym (switched-rolled m array archive room)) keeps.valid;
  sizes = sizes;
  sets = let more = length_push archive (record { era = m.era; blocks = m.current }) in omega arith;
  room = parts.room;
}
