-- Runs of the era array that are made of entries, and runs that are copied one after another.
use Rattle.std.proofs.Common.{◌≡◌, ◌≢◌, ℕ, zero, suc, ◌+◌, ◌-◌, ◌<◌, ◌≤◌, nat_le, ◌&&◌, true, false, List, [], ◌∷◌, ◌++◌, length, take, get_or, refl, sym, ap, ◌∙◌, arith, inl, inr, if◌then◌else◌}
use Rattle.std.proofs.lemmas.Bool.{cases_lt}
use Rattle.std.proofs.lemmas.Bool.Decides.{nat_tests}
use Rattle.era_base.specs.Runs.{AreRuns, BeginsAfter, EndsBefore}
use Rattle.era_model.specs.EraRuns.{EndWithin, StandsBehind, StandsBehindAll}
use Rattle.era_model.specs.MarkRuns.{era_in_runs, eras_of_runs}
use Rattle.era_core.specs.Entries.{AddsEntries}

-- The runs of the entries below an index, but for those from `first` on, which all are the era.
pub record EntriesSoFar (entries : List ℕ) (runs : List (ℕ × ℕ × ℕ)) (first era index : ℕ) : Type 0 where
  pub begun : first ≤ index
  pub behind : StandsBehindAll runs (first, first, era)
  pub apart : first ≡ index → (index ≡ 0) × (runs ≡ [])
  pub within : EndWithin first runs
  pub exact : (block : ℕ) → block < first → era_in_runs runs block ≡ get_or entries block 0
  pub waiting : (block : ℕ) → first ≤ block → block < index → get_or entries block 0 ≡ era

-- behind a gap every era may follow
pub behind-later : (runs : List (ℕ × ℕ × ℕ)) (first last end to era next : ℕ) → StandsBehindAll runs (first, last, era) → first < end → StandsBehindAll runs (end, to, next)
behind-later [] first last end to era next behind lt = tt
behind-later (run ∷ runs) first last end to era next behind lt =
    let e = behind.0.later in
    (record { later = omega arith; maximal = λ touches. absurd (omega arith) }, behind-later runs first last end to era next behind.1 lt)

-- where a run ends doesn't matter
pub behind-any : (runs : List (ℕ × ℕ × ℕ)) (first last to era : ℕ) → StandsBehindAll runs (first, last, era) → StandsBehindAll runs (first, to, era)
behind-any [] first last to era behind = tt
behind-any (run ∷ runs) first last to era behind = (record { later = behind.0.later; maximal = behind.0.maximal }, behind-any runs first last to era behind.1)

-- one more run to stand behind
behind-push : (runs : List (ℕ × ℕ × ℕ)) (before run : ℕ × ℕ × ℕ) → StandsBehindAll runs run → StandsBehind before run → StandsBehindAll (runs ++ before ∷ []) run
behind-push [] before run behind stands = (stands, tt)
behind-push (first ∷ runs) before run behind stands = (behind.0, behind-push runs before run behind.1 stands)

-- a run of another era may follow right behind
pub behind-pushed : (runs : List (ℕ × ℕ × ℕ)) (first end era last next : ℕ) → StandsBehindAll runs (first, first, era) → first < end → next ≢ era
    → StandsBehindAll (runs ++ (first, end - 1, era) ∷ []) (end, last, next)
behind-pushed runs first end era last next behind lt apart =
    behind-push runs (first, end - 1, era) (end, last, next) (behind-later runs first first end last era next behind lt)
    (record { later = omega arith; maximal = λ touches same. apart (sym same) })

-- a block past all runs has no entry
pub era-beyond : (runs : List (ℕ × ℕ × ℕ)) (run : ℕ × ℕ × ℕ) (block : ℕ) → StandsBehindAll runs run → run.0 ≤ block → era_in_runs runs block ≡ 0
era-beyond [] run block behind le = refl
era-beyond (before ∷ runs) run block behind le =
    let e = behind.0.later in
    let rest = era-beyond runs run block behind.1 le in
    let out : (nat_le before.0 block && nat_le block before.1) ≡ false = grind (arith, nat_tests) in
    rw out rest

-- one more run leaves the blocks before it
pub era-before : (runs : List (ℕ × ℕ × ℕ)) (run : ℕ × ℕ × ℕ) (block : ℕ) → block < run.0 → era_in_runs (runs ++ run ∷ []) block ≡ era_in_runs runs block
era-before [] run block lt =
    let out : (nat_le run.0 block && nat_le block run.1) ≡ false = grind (arith, nat_tests) in rw out refl
era-before (before ∷ runs) run block lt =
    ap (λ rest. if nat_le before.0 block && nat_le block before.1 then before.2 else rest) (era-before runs run block lt)

-- its own blocks have its era
pub era-added : (runs : List (ℕ × ℕ × ℕ)) (run : ℕ × ℕ × ℕ) (block : ℕ) → StandsBehindAll runs run → run.0 ≤ block → block ≤ run.1 → era_in_runs (runs ++ run ∷ []) block ≡ run.2
era-added [] run block behind from to =
    let here : (nat_le run.0 block && nat_le block run.1) ≡ true = grind (arith, nat_tests) in rw here refl
era-added (before ∷ runs) run block behind from to =
    let e = behind.0.later in
    let out : (nat_le before.0 block && nat_le block before.1) ≡ false = grind (arith, nat_tests) in
    rw out (era-added runs run block behind.1 from to)

-- runs that end within so many blocks end within more
within-more : (runs : List (ℕ × ℕ × ℕ)) (blocks more : ℕ) → blocks ≤ more → EndWithin blocks runs → EndWithin more runs
within-more [] blocks more le within = tt
within-more (run ∷ runs) blocks more le within = let e = within.0 in (omega arith, within-more runs blocks more le within.1)

within-push : (runs : List (ℕ × ℕ × ℕ)) (run : ℕ × ℕ × ℕ) (blocks : ℕ) → EndWithin blocks runs → run.1 < blocks → EndWithin blocks (runs ++ run ∷ [])
within-push [] run blocks within lt = (lt, tt)
within-push (first ∷ runs) run blocks within lt = (within.0, within-push runs run blocks within.1 lt)

-- a run is added
pub adds-run : (runs : List (ℕ × ℕ × ℕ)) (first end era : ℕ) → StandsBehindAll runs (first, first, era) → first < end → AddsEntries runs (runs ++ (first, end - 1, era) ∷ []) first end era
adds-run runs first end era behind lt = record {
  kept = λ block before. era-before runs (first, end - 1, era) block before;
  added = λ block from to. era-added runs (first, end - 1, era) block (behind-any runs first first (end - 1) era behind) from (omega arith);
  none = λ same. absurd (omega arith);
  within = λ within. within-push runs (first, end - 1, era) end (within-more runs first end (omega arith) within) (omega arith);
}

-- nothing has to be added for blocks without an entry
pub adds-none : (runs : List (ℕ × ℕ × ℕ)) (first end era : ℕ) → StandsBehindAll runs (first, first, era) → first ≤ end → (first < end → era ≡ 0) → AddsEntries runs runs first end era
adds-none runs first end era behind le none = record {
  kept = λ block before. refl;
  added = λ block from to. era-beyond runs (first, first, era) block behind from ∙ sym (none (omega arith));
  none = λ same. refl;
  within = λ within. within-more runs first end le within;
}

-- another entry begins a new run
pub so_far-next : (entries : List ℕ) (before after : List (ℕ × ℕ × ℕ)) (first era index entry : ℕ) → EntriesSoFar entries before first era index
    → AddsEntries before after first index era → ((last next : ℕ) → first < index → next ≢ era → StandsBehindAll after (index, last, next))
    → entry ≢ era → get_or entries index 0 ≡ entry → EntriesSoFar entries after index entry (index + 1)
so_far-next entries before after first era index entry so_far adds behind other is = record {
  begun = omega arith;
  behind = elim (cases_lt first index) [
    | inl lt ↦ behind index entry lt other
    | inr ge ↦ let begun = so_far.begun in let same : first ≡ index = omega arith in rw (adds.none same, (so_far.apart same).1) tt
  ];
  apart = λ same. absurd (omega arith);
  within = adds.within so_far.within;
  exact = λ block lt. elim (cases_lt block first) [
    | inl below ↦ adds.kept block below ∙ so_far.exact block below
    | inr from ↦ adds.added block from lt ∙ sym (so_far.waiting block from lt)
  ];
  waiting = λ block from lt. let at : block ≡ index = omega arith in rw at is;
}

-- the same entry waits
pub so_far-same : (entries : List ℕ) (runs : List (ℕ × ℕ × ℕ)) (first era index : ℕ) → EntriesSoFar entries runs first era index → get_or entries index 0 ≡ era
    → EntriesSoFar entries runs first era (index + 1)
so_far-same entries runs first era index so_far is =
    let begun = so_far.begun in
    record {
      begun = omega arith;
      behind = so_far.behind;
      apart = λ same. absurd (omega arith);
      within = so_far.within;
      exact = so_far.exact;
      waiting = λ block from lt. elim (cases_lt block index) [
        | inl below ↦ so_far.waiting block from below
        | inr above ↦ let at : block ≡ index = omega arith in rw at is
      ];
    }

-- runs with each block's entry are those of the entries
of-entries : (entries : List ℕ) (runs : List (ℕ × ℕ × ℕ)) (first : ℕ) → ((i : ℕ) → i < length entries → era_in_runs runs (first + i) ≡ get_or entries i 0) → eras_of_runs first (length entries) runs ≡ entries
of-entries [] runs first same = refl
of-entries (entry ∷ entries) runs first same =
    let here : era_in_runs runs first ≡ entry = (let e : first + 0 ≡ first = omega arith in rw e at (same 0 (omega arith))) in
    let rest = of-entries entries runs (first + 1) (λ i lt. (let e : first + 1 + i ≡ first + suc i = omega arith in rw e (same (suc i) (omega arith)))) in
    rw (here, rest) refl

-- at the end the runs are those of the entries
pub so_far-done : (entries : List ℕ) (before after : List (ℕ × ℕ × ℕ)) (first era : ℕ) → EntriesSoFar entries before first era (length entries) → AddsEntries before after first (length entries) era
    → eras_of_runs 0 (length entries) after ≡ entries
so_far-done entries before after first era so_far adds = of-entries entries after 0 (λ i lt. (let e : 0 + i ≡ i = omega arith in rw e (elim (cases_lt i first) [
  | inl below ↦ adds.kept i below ∙ so_far.exact i below
  | inr from ↦ adds.added i from lt ∙ sym (so_far.waiting i from lt)
])))

-- a run of a list stands behind those before it
pub ends-before : (runs : List (ℕ × ℕ)) (i : ℕ) (run d : ℕ × ℕ) → AreRuns runs → i < length runs → run ≡ get_or runs i d → EndsBefore (take i runs) run.0
ends-before [] i run d are lt is = absurd (omega arith)
ends-before (first ∷ runs) zero run d are lt is = tt
ends-before (first ∷ runs) (suc i) run d are lt is =
    (first-before first runs i run d are.1 are.2 (omega arith) is, ends-before runs i run d are.2 (omega arith) is)
  where
    first-before : (first : ℕ × ℕ) (runs : List (ℕ × ℕ)) (i : ℕ) (run d : ℕ × ℕ) → BeginsAfter first runs → AreRuns runs → i < length runs → run ≡ get_or runs i d → first.1 + 1 < run.0
    first-before first [] i run d begins are lt is = absurd (omega arith)
    first-before first (next ∷ runs) zero run d begins are lt is = rw is begins
    first-before first (next ∷ runs) (suc i) run d begins are lt is =
        let later = first-before next runs i run d are.1 are.2 (omega arith) is in let some = are.0 in let gap = begins in omega arith

-- a run of a list isn't empty
pub some-block : (runs : List (ℕ × ℕ)) (i : ℕ) (run d : ℕ × ℕ) → AreRuns runs → i < length runs → run ≡ get_or runs i d → run.0 ≤ run.1
some-block [] i run d are lt is = absurd (omega arith)
some-block (first ∷ runs) zero run d are lt is = rw is are.0
some-block (first ∷ runs) (suc i) run d are lt is = some-block runs i run d are.2 (omega arith) is
