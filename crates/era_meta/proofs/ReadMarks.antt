-- Marks whose pages were read are valid.
use Rattle.std.proofs.Common.{◌≡◌, ℕ, ◌<◌, ◌≤◌, Bool, false, List, [], ◌∷◌, ◌++◌, length, get_or, replicate, Result, Ok, Err, sym, ap, subst, ◌∙◌, arith, inl, inr}
use Rattle.std.proofs.lemmas.List.{get_or-replicate, get_or_past, length-replicate}
use Rattle.std.proofs.lemmas.Bool.{cases_lt}
use Rattle.std.specs.List.{AllByRecursion}
use Rattle.era_base.specs.CrashModel.{State}
use Rattle.era_base.specs.declared.disk.Disk.{Ghosts}
use Rattle.era_layout.specs.declared.archive.Archived.{Archived}
use Rattle.era_layout.specs.Root.{RootFields, EraOrder, IsValidRoot}
use Rattle.era_model.specs.Marks.{ArchivedSet, BlockMarks}
use Rattle.era_model.specs.Validity.{AreArchivedBetween, AreValidMarks}
use Rattle.era_slots.specs.declared.slots.Slots.{Slots}
use Rattle.era_meta.specs.declared.finding.Finding.{Finding}
use Rattle.era_meta.specs.Content.{blocks_of_root}
use Rattle.era_meta.specs.Damage.{Test, array_tests, set_tests, archive_tests}
use Rattle.era_meta.specs.Reading.{AreOfRoot}
use Rattle.era_meta.specs.SaysMarks.{HasSets}
use Rattle.era_meta.specs.Walks.{Walked}
use Rattle.era_meta.proofs.SaysMarks.{same-limit}
use Rattle.era_meta.proofs.PutSets.{sets-length}
use Rattle.era_meta.proofs.Walking.{walked-stop, walked-then}

-- a list of one entry has it everywhere, and the default behind
pub blank-entries : (count limit index : ℕ) → get_or (replicate count 0) index 0 ≤ limit
blank-entries count limit index = elim (cases_lt index count) [
  | inl within ↦ subst (λ (n : ℕ). n ≤ limit) (sym (get_or-replicate count index 0 0 within)) (omega arith)
  | inr past ↦ subst (λ (n : ℕ). n ≤ limit) (sym (get_or_past (replicate count 0) index 0 (omega (arith, length-replicate {A = ℕ} count 0)))) (omega arith)
]

pub blank-flags : (count index : ℕ) → get_or (replicate count false) index false ≡ false
blank-flags count index = elim (cases_lt index count) [
  | inl within ↦ get_or-replicate count index false false within
  | inr past ↦ get_or_past (replicate count false) index false (omega (arith, length-replicate {A = Bool} count false))
]

read-archive : (blocks above era : ℕ) (sets : List ArchivedSet) (archive : List Archived) → HasSets sets archive → EraOrder above era archive
    → AllByRecursion (λ set. length set.blocks ≡ blocks) sets → AreArchivedBetween blocks above era sets
read-archive blocks above era [] archive has order sizes = tt
read-archive blocks above era (set ∷ sets) [] has order sizes = absurd has
read-archive blocks above era (set ∷ sets) (one ∷ archive) has order sizes = (
  subst (λ (n : ℕ). above < n) has.0 order.0,
  subst (λ (n : ℕ). n < era) has.0 order.1,
  sizes.0,
  subst (λ (n : ℕ). AreArchivedBetween blocks n era sets) has.0 (read-archive blocks one.era era sets archive has.1 order.2 sizes.1),
)

abbrev pub marks_of_parts : RootFields → List ℕ → List Bool → List ArchivedSet → BlockMarks
marks_of_parts root array current archive = record {
  sectors = root.sectors;
  block_sectors = root.block_sectors;
  era = root.era;
  array = array;
  archive = archive;
  current = current;
}

pub read-valid : (tells : Bool) (now : State) (root : RootFields) (array : List ℕ) (current : List Bool) (archive : List ArchivedSet) → IsValidRoot root
    → AreOfRoot tells now root array current archive → AreValidMarks (marks_of_parts root array current archive)
read-valid tells now root array current archive valid are = record {
  begun = valid.era;
  array_size = are.array_size;
  current_size = are.current_size;
  archive = read-archive (blocks_of_root root) 0 root.era archive root.archive are.eras valid.order are.sizes;
  few_sets = subst (λ (n : ℕ). n ≤ 16) (sym (sets-length archive root.archive are.eras)) valid.count;
  entries = λ block. subst (λ (n : ℕ). get_or array block 0 ≤ n) (sym (same-limit archive root.archive root.era root.era are.eras (λ i. root.era))) (are.limited block);
}

-- three lists of tests, one behind the other
pub first-stops : {D T U : Type 0} (disk : Ghosts D) (xs ys zs : List Test) (old new : Slots D) (f : Finding)
    → Walked {T = T} disk xs old new (Err f) → Walked {T = U} disk ((xs ++ ys) ++ zs) old new (Err f)
first-stops {T = T} {U = U} disk xs ys zs old new f walked = walked-stop {T = U} {U = U} disk (xs ++ ys) zs old new f (walked-stop {T = T} {U = U} disk xs ys old new f walked)

pub second-stops : {D T U V : Type 0} (disk : Ghosts D) (xs ys zs : List Test) (old mid new : Slots D) (value : T) (f : Finding)
    → Walked disk xs old mid (Ok value) → Walked {T = U} disk ys mid new (Err f) → Walked {T = V} disk ((xs ++ ys) ++ zs) old new (Err f)
second-stops {T = T} {U = U} {V = V} disk xs ys zs old mid new value f one two =
    walked-stop {T = U} {U = V} disk (xs ++ ys) zs old new f (walked-then {T = T} {U = U} disk xs ys old mid new value (Err f) one two)

pub third-ends : {D T U V : Type 0} (disk : Ghosts D) (xs ys zs : List Test) (old one two new : Slots D) (first : T) (second : U) (result : Result V Finding)
    → Walked disk xs old one (Ok first) → Walked disk ys one two (Ok second) → Walked disk zs two new result → Walked disk ((xs ++ ys) ++ zs) old new result
third-ends {T = T} {U = U} {V = V} disk xs ys zs old one two new first second result a b c =
    walked-then {T = U} {U = V} disk (xs ++ ys) zs old two new second result (walked-then {T = T} {U = U} disk xs ys old one two first (Ok second) a b) c

-- the tests of the callees are those of the root's pages
pub as-array : (n : ℕ) (old : List ℕ) (limit limit' : ℕ) (pages pages' : List ℕ) → old ≡ replicate n 0 → limit ≡ limit' → pages ≡ pages'
    → array_tests (length old) limit 0 pages ≡ array_tests n limit' 0 pages'
as-array n old limit limit' pages pages' is same said =
    ap (λ (o : List ℕ). array_tests (length o) limit 0 pages) is ∙ (ap (λ (k : ℕ). array_tests k limit 0 pages) (length-replicate n 0)
    ∙ (ap (λ (k : ℕ). array_tests n k 0 pages) same ∙ ap (array_tests n limit' 0) said))

pub as-archive : (n blocks : ℕ) (sets sets' : List Archived) → blocks ≡ n → sets ≡ sets' → archive_tests blocks sets ≡ archive_tests n sets'
as-archive n blocks sets sets' same said = ap (λ (k : ℕ). archive_tests k sets) same ∙ ap (archive_tests n) said

pub as-set : (n : ℕ) (old : List Bool) (pages pages' : List ℕ) → old ≡ replicate n false → pages ≡ pages' → set_tests (length old) 0 pages ≡ set_tests n 0 pages'
as-set n old pages pages' is said =
    ap (λ (o : List Bool). set_tests (length o) 0 pages) is ∙ (ap (λ (k : ℕ). set_tests k 0 pages) (length-replicate n false) ∙ ap (set_tests n 0) said)
