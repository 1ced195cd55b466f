-- Maximal runs are known by their blocks.
use Rattle.std.proofs.Common.{◌≡◌, ℕ, ◌+◌, ◌<◌, ◌≤◌, ◌&&◌, List, [], ◌∷◌, refl, ap, sym, ◌∙◌, inl, inr, arith}
use Rattle.std.specs.Prelude.{true, false, nat_le}
use Rattle.std.proofs.lemmas.Bool.{cases_lt, lt-leb, le-leb, false≢true}
use Rattle.era_base.specs.Flags.{has}
use Rattle.era_base.specs.Runs.{AreRuns, BeginsAfter, runs_cover}
use Rattle.era_model.specs.MarkRuns.{SetEndsWithin, flags_of_runs}
use Rattle.era_model.proofs.FlagsOfRuns.{flag_of}

-- a block in a run, one before it and one behind it
pub within-run : (first last block : ℕ) → first ≤ block → block ≤ last → (nat_le first block && nat_le block last) ≡ true
within-run first last block from to = rw (le-leb first block from, le-leb block last to) refl

pub before-run : (first last block : ℕ) → block < first → (nat_le first block && nat_le block last) ≡ false
before-run first last block early = rw (lt-leb first block early) refl

pub behind-run : (first last block : ℕ) → last < block → (nat_le first block && nat_le block last) ≡ false
behind-run first last block late = elim (nat_le first block) as (λ from. (from && nat_le block last) ≡ false) [
  | true ↦ lt-leb block last late
  | false ↦ refl
]

-- a block up to a run, or right behind it, is in none of those behind it
cover-behind : (before : ℕ × ℕ) (runs : List (ℕ × ℕ)) (block : ℕ) → AreRuns runs → BeginsAfter before runs → block ≤ before.1 + 1 → runs_cover runs block ≡ false
cover-behind before [] block are begins up = refl
cover-behind before (run ∷ runs) block are begins up =
    let rest = cover-behind run runs block are.2 are.1 (let some = are.0 in omega arith) in
    rw (before-run run.0 run.1 block (omega arith), rest) refl

-- a block that is in one of the runs isn't before the first
cover-from : (run : ℕ × ℕ) (runs : List (ℕ × ℕ)) (block : ℕ) → AreRuns (run ∷ runs) → runs_cover (run ∷ runs) block ≡ true → run.0 ≤ block
cover-from run runs block are covered = elim (cases_lt block run.0) [
  | inl early ↦
      let none : runs_cover (run ∷ runs) block ≡ false = rw (
        before-run run.0 run.1 block early,
        cover-behind run runs block are.2 are.1 (let some = are.0 in omega arith),
      ) refl in
      absurd (false≢true (sym none ∙ covered))
  | inr late ↦ late
]

-- the first block of the first run is in it
cover-first : (run : ℕ × ℕ) (runs : List (ℕ × ℕ)) (block : ℕ) → run.0 ≤ block → block ≤ run.1 → runs_cover (run ∷ runs) block ≡ true
cover-first run runs block from to = rw (within-run run.0 run.1 block from to) refl

-- of two first runs that begin together neither ends before the other
cover-ends : (run other : ℕ × ℕ) (runs others : List (ℕ × ℕ)) → AreRuns (run ∷ runs) → other.0 ≡ run.0
    → runs_cover (run ∷ runs) (run.1 + 1) ≡ runs_cover (other ∷ others) (run.1 + 1) → other.1 ≤ run.1
cover-ends run other runs others are same covers = elim (cases_lt run.1 other.1) [
  | inl longer ↦
      let none : runs_cover (run ∷ runs) (run.1 + 1) ≡ false = rw (
        behind-run run.0 run.1 (run.1 + 1) (omega arith),
        cover-behind run runs (run.1 + 1) are.2 are.1 (omega arith),
      ) refl in
      absurd (false≢true (sym none ∙ covers ∙ cover-first other others (run.1 + 1) (let some = are.0 in omega arith) (omega arith)))
  | inr shorter ↦ shorter
]

-- behind the first run the others have what all have
cover-rest : (run : ℕ × ℕ) (runs : List (ℕ × ℕ)) (block : ℕ) → run.1 < block → runs_cover (run ∷ runs) block ≡ runs_cover runs block
cover-rest run runs block late = rw (behind-run run.0 run.1 block late) refl

-- maximal runs of the same blocks are the same
pub runs-same : (a b : List (ℕ × ℕ)) → AreRuns a → AreRuns b → ((block : ℕ) → runs_cover a block ≡ runs_cover b block) → a ≡ b
runs-same [] [] are are' covers = refl
runs-same [] (run ∷ b) are are' covers = absurd (false≢true (covers run.0 ∙ cover-first run b run.0 (omega arith) are'.0))
runs-same (run ∷ a) [] are are' covers = absurd (false≢true (sym (covers run.0) ∙ cover-first run a run.0 (omega arith) are.0))
runs-same (run ∷ a) (other ∷ b) are are' covers =
    let low = cover-from other b run.0 are' (sym (covers run.0) ∙ cover-first run a run.0 (omega arith) are.0) in
    let high = cover-from run a other.0 are (covers other.0 ∙ cover-first other b other.0 (omega arith) are'.0) in
    let first : run.0 ≡ other.0 = omega arith in
    let longer = cover-ends run other a b are (sym first) (covers (run.1 + 1)) in
    let shorter = cover-ends other run b a are' first (sym (covers (other.1 + 1))) in
    let last : run.1 ≡ other.1 = omega arith in
    let rest : (block : ℕ) → runs_cover a block ≡ runs_cover b block = λ block. elim (cases_lt run.1 block) [
      | inl late ↦ sym (cover-rest run a block late) ∙ covers block ∙ cover-rest other b block (omega arith)
      | inr early ↦ cover-behind run a block are.2 are.1 (omega arith) ∙ sym (cover-behind other b block are'.2 are'.1 (omega arith))
    ] in
    let tail = runs-same a b are.2 are'.2 rest in
    let one : run ≡ other = ap (λ (n : ℕ). (n, run.1)) first ∙ ap (λ (n : ℕ). (other.0, n)) last in
    ap (λ (r : ℕ × ℕ). r ∷ a) one ∙ ap (λ runs. other ∷ runs) tail

-- no run has a block past the end
cover-past : (blocks : ℕ) (runs : List (ℕ × ℕ)) (block : ℕ) → SetEndsWithin blocks runs → blocks ≤ block → runs_cover runs block ≡ false
cover-past blocks [] block within past = refl
cover-past blocks (run ∷ runs) block within past =
    let end = within.0 in rw (behind-run run.0 run.1 block (omega arith), cover-past blocks runs block within.1 past) refl

-- maximal runs of the same flags are the same
pub flags-same : (blocks : ℕ) (a b : List (ℕ × ℕ)) → AreRuns a → AreRuns b → SetEndsWithin blocks a → SetEndsWithin blocks b
    → flags_of_runs 0 blocks a ≡ flags_of_runs 0 blocks b → a ≡ b
flags-same blocks a b are are' within within' flags = runs-same a b are are' (λ block. elim (cases_lt block blocks) [
  | inl lt ↦ sym (flag_of blocks a block lt) ∙ ap (λ list. has list block) flags ∙ flag_of blocks b block lt
  | inr past ↦ cover-past blocks a block within past ∙ sym (cover-past blocks b block within' past)
])
