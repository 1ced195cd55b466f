-- Runs of equal entries, one run more at a time.
use Rattle.std.proofs.Common.{◌≡◌, ℕ, ◌-◌, ◌<◌, ◌≤◌, ◌&&◌, Bool, List, [], ◌∷◌, ◌++◌, refl, ap, sym, ◌∙◌, inl, inr, arith}
use Rattle.std.specs.Prelude.{true, false, nat_le, slice_index, if◌then◌else◌}
use Rattle.std.proofs.lemmas.Bool.{cases_lt, lt-leb, le-leb}
use Rattle.era_model.specs.EraRuns.{EndWithin, StandsBehindAll, StandsBehind}
use Rattle.era_model.specs.MarkRuns.{era_in_runs}
use Rattle.era_meta.specs.AsRuns.{TellEntries}

pub within-run : (first last block : ℕ) → first ≤ block → block ≤ last → (nat_le first block && nat_le block last) ≡ true
within-run first last block from to = rw (le-leb first block from, le-leb block last to) refl

pub before-run : (first last block : ℕ) → block < first → (nat_le first block && nat_le block last) ≡ false
before-run first last block early = rw (lt-leb first block early) refl

and-false : (flag : Bool) → (flag && false) ≡ false
and-false true = refl
and-false false = refl

pub behind-run : (first last block : ℕ) → last < block → (nat_le first block && nat_le block last) ≡ false
behind-run first last block late = rw (lt-leb block last late) (and-false (nat_le first block))

-- runs that end before a block
ends-later : (runs : List (ℕ × ℕ × ℕ)) (end later : ℕ) → EndWithin end runs → end ≤ later → EndWithin later runs
ends-later [] end later within le = tt
ends-later (run ∷ runs) end later within le = let last = within.0 in (omega arith, ends-later runs end later within.1 le)

ends-push : (runs : List (ℕ × ℕ × ℕ)) (run : ℕ × ℕ × ℕ) (end : ℕ) → EndWithin end runs → run.1 < end → EndWithin end (runs ++ run ∷ [])
ends-push [] run end within last = (last, tt)
ends-push (first ∷ runs) run end within last = (within.0, ends-push runs run end within.1 last)

-- a block behind runs has no entry by them
entry-ended : (runs : List (ℕ × ℕ × ℕ)) (end block : ℕ) → EndWithin end runs → end ≤ block → era_in_runs runs block ≡ 0
entry-ended [] end block within le = refl
entry-ended (run ∷ runs) end block within le =
    let last = within.0 in rw (behind-run run.0 run.1 block (omega arith), entry-ended runs end block within.1 le) refl

-- the entries of runs and of one more behind them
entry-early : (runs : List (ℕ × ℕ × ℕ)) (run : ℕ × ℕ × ℕ) (block : ℕ) → block < run.0 → era_in_runs (runs ++ run ∷ []) block ≡ era_in_runs runs block
entry-early [] run block early = rw (before-run run.0 run.1 block early) refl
entry-early (first ∷ runs) run block early =
    ap (λ rest. if nat_le first.0 block && nat_le block first.1 then first.2 else rest) (entry-early runs run block early)

entry-late : (runs : List (ℕ × ℕ × ℕ)) (run : ℕ × ℕ × ℕ) (block : ℕ) → EndWithin run.0 runs → run.0 ≤ block → block ≤ run.1 → era_in_runs (runs ++ run ∷ []) block ≡ run.2
entry-late [] run block within from to = rw (within-run run.0 run.1 block from to) refl
entry-late (first ∷ runs) run block within from to =
    let last = within.0 in rw (behind-run first.0 first.1 block (omega arith), entry-late runs run block within.1 from to) refl

-- with a run of equal entries more
pub listed-push : (runs : List (ℕ × ℕ × ℕ)) (first end era : ℕ) (entries : List ℕ) → first < end → TellEntries runs first entries
    → ((block : ℕ) → first ≤ block → block < end → slice_index entries block ≡ era) → TellEntries (runs ++ (first, end - 1, era) ∷ []) end entries
listed-push runs first end era entries some listed same = record {
  within = ends-push runs (first, end - 1, era) end (ends-later runs first end listed.within (omega arith)) (omega arith);
  each = λ block lt. elim (cases_lt block first) [
    | inl early ↦ entry-early runs (first, end - 1, era) block early ∙ listed.each block early
    | inr late ↦ entry-late runs (first, end - 1, era) block listed.within late (omega arith) ∙ sym (same block late lt)
  ];
}

-- without an era they have no run
pub listed-none : (runs : List (ℕ × ℕ × ℕ)) (first end era : ℕ) (entries : List ℕ) → first < end → era ≡ 0 → TellEntries runs first entries
    → ((block : ℕ) → first ≤ block → block < end → slice_index entries block ≡ era) → TellEntries runs end entries
listed-none runs first end era entries some none listed same = record {
  within = ends-later runs first end listed.within (omega arith);
  each = λ block lt. elim (cases_lt block first) [
    | inl early ↦ listed.each block early
    | inr late ↦ entry-ended runs first block listed.within late ∙ sym (same block late lt ∙ none)
  ];
}

-- a run behind a gap stands behind all
stands-gap : (runs : List (ℕ × ℕ × ℕ)) (first end era : ℕ) → EndWithin first runs → first < end → StandsBehindAll runs (end, end, era)
stands-gap [] first end era within lt = tt
stands-gap (run ∷ runs) first end era within lt =
    let last = within.0 in (record { later = omega arith; maximal = λ touches. absurd (omega arith) }, stands-gap runs first end era within.1 lt)

stands-push : (runs : List (ℕ × ℕ × ℕ)) (before run : ℕ × ℕ × ℕ) → StandsBehindAll runs run → StandsBehind before run → StandsBehindAll (runs ++ before ∷ []) run
stands-push [] before run all stands = (stands, tt)
stands-push (first ∷ runs) before run all stands = (all.0, stands-push runs before run all.1 stands)

-- what may stand behind one more run, and behind none more
pub next-stands : (runs : List (ℕ × ℕ × ℕ)) (first end era other : ℕ) → EndWithin first runs → first < end → (other ≡ era → ⊥)
    → StandsBehindAll (runs ++ (first, end - 1, era) ∷ []) (end, end, other)
next-stands runs first end era other within lt differ =
    stands-push runs (first, end - 1, era) (end, end, other) (stands-gap runs first end other within lt)
    (record { later = omega arith; maximal = λ touches same. differ (sym same) })

pub none-stands : (runs : List (ℕ × ℕ × ℕ)) (first end other : ℕ) → EndWithin first runs → first < end → StandsBehindAll runs (end, end, other)
none-stands runs first end other within lt = stands-gap runs first end other within lt

-- a run stands behind those that the first of its blocks stands behind
pub stands-longer : (runs : List (ℕ × ℕ × ℕ)) (first last era : ℕ) → StandsBehindAll runs (first, first, era) → StandsBehindAll runs (first, last, era)
stands-longer [] first last era all = tt
stands-longer (run ∷ runs) first last era all = let one = all.0 in (record { later = one.later; maximal = one.maximal }, stands-longer runs first last era all.1)
