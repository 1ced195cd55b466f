-- Maximal runs with eras are known by the entries of their blocks.
use Rattle.std.proofs.Common.{◌≡◌, ◌≢◌, ℕ, ◌+◌, ◌<◌, ◌≤◌, List, [], ◌∷◌, refl, ap, sym, ◌∙◌, subst, inl, inr, arith}
use Rattle.std.proofs.lemmas.Bool.{cases_lt}
use Rattle.era_model.specs.EraRuns.{AreEraRuns, EndWithin, NextStandsBehind}
use Rattle.era_model.specs.MarkRuns.{era_in_runs, eras_of_runs}
use Rattle.era_model.specs.Marks.{entry_of}
use Rattle.era_model.proofs.FlagsOfRuns.{entry_of_runs}
use Rattle.era_text.proofs.SameRuns.{before-run, behind-run, within-run}

-- a block up to a run has no entry by those behind it
pub entry-behind : (before : ℕ × ℕ × ℕ) (runs : List (ℕ × ℕ × ℕ)) (block : ℕ) → AreEraRuns runs → NextStandsBehind before runs → block ≤ before.1
    → era_in_runs runs block ≡ 0
entry-behind before [] block are next up = refl
entry-behind before (run ∷ runs) block are next up =
    let early : block < run.0 = let later = next.later in omega arith in
    let rest = entry-behind run runs block are.3 are.2 (let some = are.0 in omega arith) in
    rw (before-run run.0 run.1 block early, rest) refl

-- the block right behind a run has another entry
entry-next : (before : ℕ × ℕ × ℕ) (runs : List (ℕ × ℕ × ℕ)) → AreEraRuns runs → NextStandsBehind before runs → 0 < before.2
    → era_in_runs runs (before.1 + 1) ≢ before.2
entry-next before [] are next era = λ same. let e : 0 ≡ before.2 = same in omega arith
entry-next before (run ∷ runs) are next era = elim (cases_lt (before.1 + 1) run.0) [
  | inl apart ↦ λ same.
      let none : era_in_runs (run ∷ runs) (before.1 + 1) ≡ 0 = rw (
        before-run run.0 run.1 (before.1 + 1) apart,
        entry-behind run runs (before.1 + 1) are.3 are.2 (let some = are.0 in omega arith),
      ) refl in
      let e : 0 ≡ before.2 = sym none ∙ same in omega arith
  | inr touches ↦ λ same.
      let begins : before.1 + 1 ≡ run.0 = let later = next.later in omega arith in
      let here : era_in_runs (run ∷ runs) (before.1 + 1) ≡ run.2 = rw (within-run run.0 run.1 (before.1 + 1) touches (let some = are.0 in omega arith)) refl in
      next.maximal begins (sym same ∙ here)
]

-- a block with an entry isn't before the first run
entry-from : (run : ℕ × ℕ × ℕ) (runs : List (ℕ × ℕ × ℕ)) (block : ℕ) → AreEraRuns (run ∷ runs) → 0 < era_in_runs (run ∷ runs) block → run.0 ≤ block
entry-from run runs block are entered = elim (cases_lt block run.0) [
  | inl early ↦
      let none : era_in_runs (run ∷ runs) block ≡ 0 = rw (
        before-run run.0 run.1 block early,
        entry-behind run runs block are.3 are.2 (let some = are.0 in omega arith),
      ) refl in omega arith
  | inr late ↦ late
]

-- the entry of the blocks of the first run
pub entry-first : (run : ℕ × ℕ × ℕ) (runs : List (ℕ × ℕ × ℕ)) (block : ℕ) → run.0 ≤ block → block ≤ run.1 → era_in_runs (run ∷ runs) block ≡ run.2
entry-first run runs block from to = rw (within-run run.0 run.1 block from to) refl

-- behind the first run the others tell the entries
pub entry-rest : (run : ℕ × ℕ × ℕ) (runs : List (ℕ × ℕ × ℕ)) (block : ℕ) → run.1 < block → era_in_runs (run ∷ runs) block ≡ era_in_runs runs block
entry-rest run runs block late = rw (behind-run run.0 run.1 block late) refl

-- of two first runs that begin together neither ends before the other
entry-ends : (run other : ℕ × ℕ × ℕ) (runs others : List (ℕ × ℕ × ℕ)) → AreEraRuns (run ∷ runs) → other.0 ≡ run.0 → other.2 ≡ run.2
    → era_in_runs (run ∷ runs) (run.1 + 1) ≡ era_in_runs (other ∷ others) (run.1 + 1) → other.1 ≤ run.1
entry-ends run other runs others are same era entries = elim (cases_lt run.1 other.1) [
  | inl longer ↦
      let here = entry-first other others (run.1 + 1) (let some = are.0 in omega arith) (omega arith) in
      let next = entry-next run runs are.3 are.2 are.1 in
      absurd (next (sym (entry-rest run runs (run.1 + 1) (omega arith)) ∙ entries ∙ here ∙ era))
  | inr shorter ↦ shorter
]

-- maximal runs with the same entries are the same
pub era_runs-same : (a b : List (ℕ × ℕ × ℕ)) → AreEraRuns a → AreEraRuns b → ((block : ℕ) → era_in_runs a block ≡ era_in_runs b block) → a ≡ b
era_runs-same [] [] are are' entries = refl
era_runs-same [] (run ∷ b) are are' entries =
    let e : 0 ≡ run.2 = entries run.0 ∙ entry-first run b run.0 (omega arith) are'.0 in absurd (let era = are'.1 in omega arith)
era_runs-same (run ∷ a) [] are are' entries =
    let e : 0 ≡ run.2 = sym (entries run.0) ∙ entry-first run a run.0 (omega arith) are.0 in absurd (let era = are.1 in omega arith)
era_runs-same (run ∷ a) (other ∷ b) are are' entries =
    let here = entry-first run a run.0 (omega arith) are.0 in
    let there = entry-first other b other.0 (omega arith) are'.0 in
    let positive : 0 < run.2 = are.1 in
    let positive' : 0 < other.2 = are'.1 in
    let low = entry-from other b run.0 are' (subst (λ era. 0 < era) (sym here ∙ entries run.0) positive) in
    let high = entry-from run a other.0 are (subst (λ era. 0 < era) (sym there ∙ sym (entries other.0)) positive') in
    let first : run.0 ≡ other.0 = omega arith in
    let era : run.2 ≡ other.2 = sym here ∙ entries run.0 ∙ ap (era_in_runs (other ∷ b)) first ∙ there in
    let longer = entry-ends run other a b are (sym first) (sym era) (entries (run.1 + 1)) in
    let shorter = entry-ends other run b a are' first era (sym (entries (other.1 + 1))) in
    let last : run.1 ≡ other.1 = omega arith in
    let rest : (block : ℕ) → era_in_runs a block ≡ era_in_runs b block = λ block. elim (cases_lt run.1 block) [
      | inl late ↦ sym (entry-rest run a block late) ∙ entries block ∙ entry-rest other b block (omega arith)
      | inr early ↦ entry-behind run a block are.3 are.2 early ∙ sym (entry-behind other b block are'.3 are'.2 (omega arith))
    ] in
    let tail = era_runs-same a b are.3 are'.3 rest in
    let one : run ≡ other = ap (λ (n : ℕ). (n, run.1, run.2)) first ∙ ap (λ (n : ℕ). (other.0, n, run.2)) last ∙ ap (λ (n : ℕ). (other.0, other.1, n)) era in
    ap (λ (r : ℕ × ℕ × ℕ). r ∷ a) one ∙ ap (λ runs. other ∷ runs) tail

-- no run has an entry past the end
entry-past : (blocks : ℕ) (runs : List (ℕ × ℕ × ℕ)) (block : ℕ) → EndWithin blocks runs → blocks ≤ block → era_in_runs runs block ≡ 0
entry-past blocks [] block within past = refl
entry-past blocks (run ∷ runs) block within past =
    let end = within.0 in rw (behind-run run.0 run.1 block (omega arith), entry-past blocks runs block within.1 past) refl

-- maximal runs of the same array are the same
pub entries-same : (blocks : ℕ) (a b : List (ℕ × ℕ × ℕ)) → AreEraRuns a → AreEraRuns b → EndWithin blocks a → EndWithin blocks b
    → eras_of_runs 0 blocks a ≡ eras_of_runs 0 blocks b → a ≡ b
entries-same blocks a b are are' within within' eras = era_runs-same a b are are' (λ block. elim (cases_lt block blocks) [
  | inl lt ↦ sym (entry_of_runs blocks a block lt) ∙ ap (λ list. entry_of list block) eras ∙ entry_of_runs blocks b block lt
  | inr past ↦ entry-past blocks a block within past ∙ sym (entry-past blocks b block within' past)
])
