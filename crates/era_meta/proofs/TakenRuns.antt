-- Sets and entries that are made of runs, from the last run to the first.
use Rattle.std.proofs.Common.{◌≡◌, ℕ, zero, suc, ◌+◌, ◌-◌, ◌<◌, ◌≤◌, Bool, true, List, [], ◌∷◌, ◌++◌, length, take, drop, get_or, refl, sym, ap, ◌∙◌, subst, inl, inr, arith}
use Rattle.std.proofs.lemmas.Bool.{cases_lt}
use Rattle.std.proofs.lemmas.List.{drop_more, take_more}
use Rattle.std.specs.List.{AllByRecursion}
use Rattle.era_base.specs.Flags.{has}
use Rattle.era_base.specs.Runs.{runs_cover}
use Rattle.era_model.specs.EraRuns.{EndWithin}
use Rattle.era_model.specs.MarkRuns.{SetEndsWithin, SetsEndWithin, era_in_runs, sets_of_runs}
use Rattle.era_model.specs.Marks.{ArchivedSet}
use Rattle.era_model.specs.declared.marked_set.MarkedSet.{MarkedSet}
use Rattle.era_meta.specs.AsRuns.{TellSet, TellSets}
use Rattle.era_meta.proofs.AreasNumbered.{all_drop}
use Rattle.era_meta.proofs.MarkRunsTold.{sets-push}
use Rattle.era_meta.proofs.EntryRuns.{within-run, before-run, behind-run}

-- one run more in front of the others
pub cover-more : (run : ℕ × ℕ) (runs : List (ℕ × ℕ)) (block : ℕ) (before after : Bool) → (run.0 ≤ block → block ≤ run.1 → after ≡ true)
    → ((run.0 ≤ block → run.1 < block) → after ≡ before) → runs_cover runs block ≡ before → runs_cover (run ∷ runs) block ≡ after
cover-more run runs block before after within others is = elim (cases_lt block run.0) [
  | inl early ↦ rw (before-run run.0 run.1 block early) (is ∙ sym (others (λ low. omega arith)))
  | inr from ↦ elim (cases_lt run.1 block) [
    | inl late ↦ rw (behind-run run.0 run.1 block late) (is ∙ sym (others (λ low. late)))
    | inr to ↦ rw (within-run run.0 run.1 block from to) (sym (within from to))
  ]
]

pub entry-more : (run : ℕ × ℕ × ℕ) (runs : List (ℕ × ℕ × ℕ)) (block before after : ℕ) → (run.0 ≤ block → block ≤ run.1 → after ≡ run.2)
    → ((run.0 ≤ block → run.1 < block) → after ≡ before) → era_in_runs runs block ≡ before → era_in_runs (run ∷ runs) block ≡ after
entry-more run runs block before after within others is = elim (cases_lt block run.0) [
  | inl early ↦ rw (before-run run.0 run.1 block early) (is ∙ sym (others (λ low. omega arith)))
  | inr from ↦ elim (cases_lt run.1 block) [
    | inl late ↦ rw (behind-run run.0 run.1 block late) (is ∙ sym (others (λ low. late)))
    | inr to ↦ rw (within-run run.0 run.1 block from to) (sym (within from to))
  ]
]

-- the run in front of the last ones
pub run-before : {A : Type 0} (runs : List A) (back : ℕ) (run : A) → back < length runs → (d : A) → run ≡ get_or runs (length runs - 1 - back) d
    → drop (length runs - (back + 1)) runs ≡ run ∷ drop (length runs - back) runs
run-before runs back run below d is =
    let at = length runs - 1 - back in
    ap (λ (n : ℕ). drop n runs) (let e : length runs - (back + 1) ≡ at = omega arith in e)
    ∙ drop_more runs at d (omega arith)
    ∙ ap (λ (first : _). first ∷ drop (at + 1) runs) (sym is)
    ∙ ap (λ (n : ℕ). run ∷ drop n runs) (let e : at + 1 ≡ length runs - back = omega arith in e)

-- each run ends within the blocks
pub set-ends-at : (blocks : ℕ) (runs : List (ℕ × ℕ)) (at : ℕ) (d : ℕ × ℕ) → SetEndsWithin blocks runs → at < length runs → (get_or runs at d).1 < blocks
set-ends-at blocks [] at d ends lt = absurd (omega (arith, lt))
set-ends-at blocks (first ∷ runs) zero d ends lt = ends.0
set-ends-at blocks (first ∷ runs) (suc at) d ends lt = set-ends-at blocks runs at d ends.1 (omega (arith, lt))

pub era-ends-at : (blocks : ℕ) (runs : List (ℕ × ℕ × ℕ)) (at : ℕ) (d : ℕ × ℕ × ℕ) → EndWithin blocks runs → at < length runs → (get_or runs at d).1 < blocks
era-ends-at blocks [] at d ends lt = absurd (omega (arith, lt))
era-ends-at blocks (first ∷ runs) zero d ends lt = ends.0
era-ends-at blocks (first ∷ runs) (suc at) d ends lt = era-ends-at blocks runs at d ends.1 (omega (arith, lt))

-- archived sets
pub sets-end-at : (blocks : ℕ) (sets : List MarkedSet) (i : ℕ) (set : MarkedSet) → SetsEndWithin blocks sets → i < length sets → set ≡ get_or sets i set
    → SetEndsWithin blocks set.blocks
sets-end-at blocks [] i set ends lt is = absurd (omega (arith, lt))
sets-end-at blocks (first ∷ sets) zero set ends lt is = subst (λ (one : MarkedSet). SetEndsWithin blocks one.blocks) (sym is) ends.0
sets-end-at blocks (first ∷ sets) (suc i) set ends lt is = sets-end-at blocks sets i set ends.1 (omega (arith, lt)) is

pub spare-size : (blocks : ℕ) (spare left : List ArchivedSet) (at : ℕ) (taken : ArchivedSet) → drop at spare ≡ taken ∷ left → AllByRecursion (λ set. length set.blocks ≡ blocks) spare
    → length taken.blocks ≡ blocks
spare-size blocks spare left at taken is all =
    (subst (AllByRecursion (λ (set : ArchivedSet). length set.blocks ≡ blocks)) is (all_drop (λ (set : ArchivedSet). length set.blocks ≡ blocks) at spare all)).0

pub taken-step : (told : List MarkedSet) (blocks i : ℕ) (archive : List ArchivedSet) (one : MarkedSet) (set item : ArchivedSet) → i < length told → one ≡ get_or told i one
    → TellSets (take i told) blocks archive → item ≡ set → one.era ≡ set.era → TellSet one.blocks blocks (has set.blocks) → TellSets (take (i + 1) told) blocks (archive ++ item ∷ [])
taken-step told blocks i archive one set item lt is tells same era own =
    subst (λ (sets : List MarkedSet). TellSets sets blocks (archive ++ item ∷ [])) (ap (λ (last : MarkedSet). take i told ++ last ∷ []) is ∙ sym (take_more told i one lt))
    (subst (λ (last : ArchivedSet). TellSets (take i told ++ one ∷ []) blocks (archive ++ last ∷ [])) (sym same)
    (sets-push (take i told) blocks archive one set tells era own))

-- as many sets as runs tell
pub tell-length : (told : List MarkedSet) (blocks : ℕ) (sets : List ArchivedSet) → TellSets told blocks sets → length sets ≡ length told
tell-length [] blocks [] tells = refl
tell-length [] blocks (set ∷ sets) tells = absurd tells
tell-length (one ∷ told) blocks [] tells = absurd tells
tell-length (one ∷ told) blocks (set ∷ sets) tells = ap suc (tell-length told blocks sets tells.2)

pub length-sets_of_runs : (blocks : ℕ) (told : List MarkedSet) → length (sets_of_runs blocks told) ≡ length told
length-sets_of_runs blocks [] = refl
length-sets_of_runs blocks (set ∷ told) = ap suc (length-sets_of_runs blocks told)
