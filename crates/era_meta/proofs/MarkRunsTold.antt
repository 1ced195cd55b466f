-- Runs that tell a set, archived sets, and whole marks.
use Rattle.std.proofs.Common.{◌≡◌, ℕ, zero, suc, ◌+◌, ◌<◌, ◌&&◌, ◌||◌, Bool, true, false, List, [], ◌∷◌, ◌++◌, length, get_or, take, refl, ap, sym, ◌∙◌, subst, arith}
use Rattle.std.specs.Prelude.{nat_le}
use Rattle.std.specs.List.{AllByRecursion}
use Rattle.std.proofs.lemmas.Bool.{le-leb}
use Rattle.std.proofs.lemmas.List.{ext_get_or, take_more}
use Rattle.era_base.specs.Flags.{has}
use Rattle.era_base.specs.Geometry.{blocks_of}
use Rattle.era_base.specs.Runs.{AreRuns, ListExactly, runs_cover}
use Rattle.era_base.specs.declared.geometry.Geometry.{Geometry}
use Rattle.era_model.specs.MarkRuns.{SetEndsWithin, SetsEndWithin, AreWithin, eras_of_runs, flags_of_runs, sets_of_runs, marks_of_runs}
use Rattle.era_model.specs.Marks.{ArchivedSet}
use Rattle.era_model.specs.Validity.{AreArchivedBetween}
use Rattle.era_model.specs.declared.marked_set.MarkedSet.{MarkedSet}
use Rattle.era_model.proofs.FlagsOfRuns.{flag_of, entry_of_runs}
use Rattle.era_meta.specs.AsRuns.{TellEntries, TellSet, TellSets}

or-true : (flag : Bool) → (flag || true) ≡ true
or-true true = refl
or-true false = refl

-- runs whose blocks are all below an end
ends-below : (blocks : ℕ) (runs : List (ℕ × ℕ)) → AreRuns runs → ((block : ℕ) → runs_cover runs block ≡ true → block < blocks) → SetEndsWithin blocks runs
ends-below blocks [] are below = tt
ends-below blocks (run ∷ runs) are below =
    let some = are.0 in
    let own : (nat_le run.0 run.1 && nat_le run.1 run.1) ≡ true = rw (le-leb run.0 run.1 some, le-leb run.1 run.1 (omega arith)) refl in (
      below run.1 (ap (λ flag. flag || runs_cover runs run.1) own),
      ends-below blocks runs are.2 (λ block covered.
          below block (ap (λ flag. (nat_le run.0 block && nat_le block run.1) || flag) covered ∙ or-true (nat_le run.0 block && nat_le block run.1))),
    )

flag-below : (flags : List Bool) (block : ℕ) → has flags block ≡ true → block < length flags
flag-below [] block is = absurd (let never : ⊥ = cc in never)
flag-below (flag ∷ flags) zero is = omega arith
flag-below (flag ∷ flags) (suc block) is = let rest = flag-below flags block is in omega arith

-- the runs of a set's blocks tell it
pub set-told : (flags : List Bool) (runs : List (ℕ × ℕ)) → AreRuns runs → ListExactly runs (has flags) → TellSet runs (length flags) (has flags)
set-told flags runs are exact = record {
  within = ends-below (length flags) runs are (λ block covered. flag-below flags block (sym (exact block) ∙ covered));
  exact = exact;
}

length-flags : (first count : ℕ) (runs : List (ℕ × ℕ)) → length (flags_of_runs first count runs) ≡ count
length-flags first zero runs = refl
length-flags first (suc count) runs = ap suc (length-flags (first + 1) count runs)

length-eras : (first count : ℕ) (runs : List (ℕ × ℕ × ℕ)) → length (eras_of_runs first count runs) ≡ count
length-eras first zero runs = refl
length-eras first (suc count) runs = ap suc (length-eras (first + 1) count runs)

-- a set that is told is the one that the runs are of
pub flags-told : (flags : List Bool) (runs : List (ℕ × ℕ)) (blocks : ℕ) → length flags ≡ blocks → ListExactly runs (has flags) → flags_of_runs 0 blocks runs ≡ flags
flags-told flags runs blocks size exact =
    ext_get_or false (flags_of_runs 0 blocks runs) flags (length-flags 0 blocks runs ∙ sym size)
    (λ block lt. let within : block < blocks = let l = length-flags 0 blocks runs in omega arith in flag_of blocks runs block within ∙ exact block)

pub eras-told : (eras : List ℕ) (runs : List (ℕ × ℕ × ℕ)) (blocks : ℕ) → length eras ≡ blocks → TellEntries runs blocks eras → eras_of_runs 0 blocks runs ≡ eras
eras-told eras runs blocks size told =
    ext_get_or 0 (eras_of_runs 0 blocks runs) eras (length-eras 0 blocks runs ∙ sym size)
    (λ block lt. let within : block < blocks = let l = length-eras 0 blocks runs in omega arith in entry_of_runs blocks runs block within ∙ told.each block within)

-- archived sets, one more at a time
pub sets-push : (told : List MarkedSet) (blocks : ℕ) (sets : List ArchivedSet) (one : MarkedSet) (set : ArchivedSet) → TellSets told blocks sets
    → one.era ≡ set.era → TellSet one.blocks blocks (has set.blocks) → TellSets (told ++ one ∷ []) blocks (sets ++ set ∷ [])
sets-push [] blocks [] one set tells era own = (era, own, tt)
sets-push [] blocks (other ∷ sets) one set tells era own = absurd tells
sets-push (first ∷ told) blocks [] one set tells era own = absurd tells
sets-push (first ∷ told) blocks (other ∷ sets) one set tells era own = (tells.0, tells.1, sets-push told blocks sets one set tells.2 era own)

pub sets-step : (told : List MarkedSet) (blocks i : ℕ) (sets : List ArchivedSet) (one : MarkedSet) (set : ArchivedSet) → i < length sets → set ≡ get_or sets i set
    → TellSets told blocks (take i sets) → one.era ≡ set.era → TellSet one.blocks blocks (has set.blocks) → TellSets (told ++ one ∷ []) blocks (take (i + 1) sets)
sets-step told blocks i sets one set lt is tells era own =
    subst (TellSets (told ++ one ∷ []) blocks) (ap (λ (last : ArchivedSet). take i sets ++ last ∷ []) is ∙ sym (take_more sets i set lt))
    (sets-push told blocks (take i sets) one set tells era own)

pub sets-told : (told : List MarkedSet) (blocks : ℕ) (sets : List ArchivedSet) → AllByRecursion (λ set. length set.blocks ≡ blocks) sets → TellSets told blocks sets
    → (sets_of_runs blocks told ≡ sets) × SetsEndWithin blocks told
sets-told [] blocks [] sizes tells = (refl, tt)
sets-told [] blocks (set ∷ sets) sizes tells = absurd tells
sets-told (one ∷ told) blocks [] sizes tells = absurd tells
sets-told (one ∷ told) blocks (set ∷ sets) sizes tells =
    let rest = sets-told told blocks sets sizes.1 tells.2 in
    let flags = flags-told set.blocks one.blocks blocks sizes.0 tells.1.exact in
    let era = tells.0 in
    (rw (rest.0, flags, era) refl, (tells.1.within, rest.1))

-- a set at an index is of as many blocks as all
pub size-at : (blocks : ℕ) (sets : List ArchivedSet) (i : ℕ) (set : ArchivedSet) → AllByRecursion (λ one. length one.blocks ≡ blocks) sets → i < length sets
    → set ≡ get_or sets i set → length set.blocks ≡ blocks
size-at blocks [] i set sizes lt is = absurd (omega arith)
size-at blocks (first ∷ sets) zero set sizes lt is = ap (λ (one : ArchivedSet). length one.blocks) is ∙ sizes.0
size-at blocks (first ∷ sets) (suc i) set sizes lt is = size-at blocks sets i set sizes.1 (omega arith) is

-- archived sets of valid marks are of their blocks
pub sizes-of : (blocks above below : ℕ) (sets : List ArchivedSet) → AreArchivedBetween blocks above below sets → AllByRecursion (λ set. length set.blocks ≡ blocks) sets
sizes-of blocks above below [] are = tt
sizes-of blocks above below (set ∷ sets) are = (are.2, sizes-of blocks set.era below sets are.3)

-- runs that tell marks of so many blocks end within them
pub within-all : (blocks : ℕ) (entries : List ℕ) (sets : List ArchivedSet) (flags : List Bool) (array : List (ℕ × ℕ × ℕ)) (archive : List MarkedSet) (current : List (ℕ × ℕ))
    → length entries ≡ blocks → length flags ≡ blocks → TellEntries array (length entries) entries → AllByRecursion (λ set. length set.blocks ≡ blocks) sets
    → TellSets archive blocks sets → TellSet current (length flags) (has flags) → AreWithin blocks array archive current
within-all blocks entries sets flags array archive current size size' one sizes two three = record {
  array_within = rw size at one.within;
  archive_within = (sets-told archive blocks sets sizes two).1;
  current_within = rw size' at three.within;
}

-- and are the marks
pub marks-told : (g : Geometry) (era : ℕ) (entries : List ℕ) (sets : List ArchivedSet) (flags : List Bool) (array : List (ℕ × ℕ × ℕ)) (archive : List MarkedSet) (current : List (ℕ × ℕ))
    → length entries ≡ blocks_of g.sectors g.block_sectors → length flags ≡ blocks_of g.sectors g.block_sectors → TellEntries array (length entries) entries
    → AllByRecursion (λ set. length set.blocks ≡ blocks_of g.sectors g.block_sectors) sets → TellSets archive (blocks_of g.sectors g.block_sectors) sets
    → TellSet current (length flags) (has flags)
    → marks_of_runs g era array archive current
    ≡ record { sectors = g.sectors; block_sectors = g.block_sectors; era = era; array = entries; archive = sets; current = flags }
marks-told g era entries sets flags array archive current size size' one sizes two three =
    let blocks = blocks_of g.sectors g.block_sectors in
    let told : TellEntries array blocks entries = rw size at one in
    let a = eras-told entries array blocks size told in
    let s = (sets-told archive blocks sets sizes two).0 in
    let c = flags-told flags current blocks size' three.exact in
    rw (a, s, c) refl
