-- Entries that are raised to the eras of runs, one run after another.
use Rattle.std.proofs.Common.{◌≡◌, ℕ, zero, suc, ◌+◌, ◌-◌, ◌<◌, ◌≤◌, ◌&&◌, ◌||◌, max, List, [], ◌∷◌, ◌++◌, length, get_or, take, refl, ap, sym, ◌∙◌, subst, inl, inr, arith}
use Rattle.std.specs.Prelude.{true, false, nat_le, nat_lt, slice_index, replicate, if◌then◌else◌}
use Rattle.std.proofs.lemmas.Bool.{cases_lt, lt-ltb, le-ltb, lt-leb, le-leb}
use Rattle.std.proofs.lemmas.List.{take_more}
use Rattle.era_base.specs.Runs.{AreRuns, BeginsAfter, EndsBefore, runs_cover}
use Rattle.era_model.specs.EraRuns.{AreEraRuns, EndWithin, StandsBehindAll, StandsBehind}
use Rattle.era_base.specs.Geometry.{blocks_of}
use Rattle.era_base.specs.declared.geometry.Geometry.{Geometry}
use Rattle.era_model.specs.MarkRuns.{era_in_runs, eras_of_runs, flags_of_runs, marks_of_runs, sets_of_runs}
use Rattle.era_model.specs.Marks.{BlockMarks, last_archived}
use Rattle.era_model.specs.Merging.{merged_array, merged_marks}
use Rattle.era_model.specs.declared.marked_set.MarkedSet.{MarkedSet}
use Rattle.era_model.proofs.FlagsOfRuns.{entry_of_runs, last_archived-first}
use Rattle.era_text.specs.Folding.{ListEntries, RaisedBy, array_value, era_within, greatest_at, set_value, sets_value}
use Rattle.era_text.proofs.SameRuns.{before-run, behind-run, within-run}
use Rattle.era_text.proofs.SameEraRuns.{entry-behind}
use Rattle.era_text.proofs.MergedMarks.{entry-merged, length-merged}

-- nothing was raised
pub raised-none : {A : Type 0} (value : A → ℕ → ℕ) (entries : List ℕ) → RaisedBy (greatest_at value []) entries entries
raised-none value entries = record { size = refl; each = λ block lt. omega arith }

-- one value more among the greatest
greatest-push : {A : Type 0} (value : A → ℕ → ℕ) (items : List A) (item : A) (block : ℕ)
    → greatest_at value (items ++ item ∷ []) block ≡ max (greatest_at value items block) (value item block)
greatest-push value [] item block = omega arith
greatest-push value (first ∷ items) item block = let rest = greatest-push value items item block in omega (arith, rest)

-- the entries were raised to one item more
pub raised-at : {A : Type 0} (value : A → ℕ → ℕ) (items : List A) (i : ℕ) (d : A) (old middle new : List ℕ) → i < length items
    → RaisedBy (greatest_at value (take i items)) old middle → RaisedBy (value (get_or items i d)) middle new → RaisedBy (greatest_at value (take (i + 1) items)) old new
raised-at value items i d old middle new lt before now = record {
  size = now.size ∙ before.size;
  each = λ block below.
      let one = before.each block below in
      let two = now.each block (let size = before.size in omega arith) in
      let both = ap (λ list. greatest_at value list block) (take_more items i d lt) ∙ greatest-push value (take i items) (get_or items i d) block in
      omega (arith, one, two, both);
}

pub raised-more : {A : Type 0} (value : A → ℕ → ℕ) (items : List A) (i : ℕ) (item : A) (old middle new : List ℕ) → i < length items → item ≡ get_or items i item
    → RaisedBy (greatest_at value (take i items)) old middle → RaisedBy (value item) middle new → RaisedBy (greatest_at value (take (i + 1) items)) old new
raised-more value items i item old middle new lt is before now =
    raised-at value items i item old middle new lt before (subst (λ other. RaisedBy (value other) middle new) is now)

-- an era for the blocks that lie in one of the runs
pub set-value : (era : ℕ) (runs : List (ℕ × ℕ)) (block : ℕ) → set_value era runs block ≡ (if runs_cover runs block then era else 0)
set-value era [] block = refl
set-value era (run ∷ runs) block =
    let rest = set-value era runs block in
    elim (nat_le run.0 block && nat_le block run.1) as (λ here. max (if here then era else 0) (set_value era runs block) ≡ (if here || runs_cover runs block then era else 0)) [
      | true ↦ elim (runs_cover runs block) as (λ covered. set_value era runs block ≡ (if covered then era else 0) → max era (set_value era runs block) ≡ era) [
        | true ↦ λ is. omega (arith, is)
        | false ↦ λ is. omega (arith, is)
      ] rest
      | false ↦ omega (arith, rest)
    ]

-- the greatest era of the archived sets that have a block
pub sets-value : (blocks : ℕ) (sets : List MarkedSet) (block : ℕ) → block < blocks → sets_value sets block ≡ last_archived (sets_of_runs blocks sets) block
sets-value blocks [] block lt = refl
sets-value blocks (set ∷ sets) block lt =
    let first = last_archived-first blocks set sets block lt in
    rw (first, set-value set.era set.blocks block, sets-value blocks sets block lt) refl

-- the entry by maximal runs
pub array-value : (runs : List (ℕ × ℕ × ℕ)) (block : ℕ) → AreEraRuns runs → array_value runs block ≡ era_in_runs runs block
array-value [] block are = refl
array-value (run ∷ runs) block are =
    let rest = array-value runs block are.3 in
    elim (cases_lt block run.0) [
      | inl early ↦ rw (before-run run.0 run.1 block early) (omega (arith, rest))
      | inr from ↦ elim (cases_lt run.1 block) [
        | inl late ↦ rw (behind-run run.0 run.1 block late) (omega (arith, rest))
        | inr to ↦
            let none = entry-behind run runs block are.3 are.2 to in
            rw (within-run run.0 run.1 block from to) (omega (arith, rest, none))
      ]
    ]

-- lists of the same length with the same entries are the same
pub lists-same : (a b : List ℕ) → length a ≡ length b → ((i : ℕ) → i < length a → slice_index a i ≡ slice_index b i) → a ≡ b
lists-same [] [] sizes entries = refl
lists-same [] (y ∷ b) sizes entries = absurd (omega arith)
lists-same (x ∷ a) [] sizes entries = absurd (omega arith)
lists-same (x ∷ a) (y ∷ b) sizes entries =
    let first : x ≡ y = entries 0 (omega arith) in
    let rest = lists-same a b (omega arith) (λ i lt. entries (suc i) (omega arith)) in cc

pub length-eras : (first count : ℕ) (runs : List (ℕ × ℕ × ℕ)) → length (eras_of_runs first count runs) ≡ count
length-eras first zero runs = refl
length-eras first (suc count) runs = ap suc (length-eras (first + 1) count runs)

zero-entry : (count block : ℕ) → slice_index (replicate count 0) block ≡ 0
zero-entry zero block = refl
zero-entry (suc count) zero = refl
zero-entry (suc count) (suc block) = zero-entry count block

length-zeros : (count : ℕ) → length {A = ℕ} (replicate count 0) ≡ count
length-zeros zero = refl
length-zeros (suc count) = ap suc (length-zeros count)

-- the runs of the raised entries are those of the merged array
pub merged-runs : (blocks : ℕ) (array folded : List (ℕ × ℕ × ℕ)) (archive : List MarkedSet) (zeros middle entries : List ℕ)
    → zeros ≡ replicate blocks 0 → AreEraRuns array → RaisedBy (array_value array) zeros middle → RaisedBy (sets_value archive) middle entries
    → ListEntries folded (length entries) entries
    → (length entries ≡ blocks) × (eras_of_runs 0 blocks folded ≡ merged_array (sets_of_runs blocks archive) 0 (eras_of_runs 0 blocks array))
merged-runs blocks array folded archive begun middle entries empty are raised two lists =
    let one : RaisedBy (array_value array) (replicate blocks 0) middle = subst (λ old. RaisedBy (array_value array) old middle) empty raised in
    let size : length entries ≡ blocks = two.size ∙ one.size ∙ length-zeros blocks in
    let sets = sets_of_runs blocks archive in
    let eras = eras_of_runs 0 blocks array in
    let none = length-zeros blocks in
    let size' = one.size in (
      size,
      lists-same (eras_of_runs 0 blocks folded) (merged_array sets 0 eras)
          (length-eras 0 blocks folded ∙ sym (length-merged sets 0 eras ∙ length-eras 0 blocks array))
          (λ block below.
          let lt : block < blocks = let l = length-eras 0 blocks folded in omega arith in
          let e : 0 + block ≡ block = omega arith in
          let entry = rw e at (entry-merged sets 0 eras block (let l = length-eras 0 blocks array in omega arith)) in
          let left = entry_of_runs blocks folded block lt in
          let told = lists.each block (omega arith) in
          let second = two.each block (omega arith) in
          let first = one.each block (omega arith) in
          let zeros = zero-entry blocks block in
          let old = entry_of_runs blocks array block lt in
          let by_array = array-value array block are in
          let by_sets = sets-value blocks archive block lt in
          omega (arith, entry, left, told, second, first, zeros, old, by_array, by_sets)),
    )

-- the entries of a run were raised, up to its last block or the end of all
pub raised-run : (old new : List ℕ) (first last era index : ℕ) → length new ≡ length old
    → ((block : ℕ) → block < length old → slice_index new block ≡ max (slice_index old block) (if nat_le first block && nat_lt block index then era else 0))
    → ((block : ℕ) → block < length old → block ≤ last → block < index) → index ≤ last + 1 → RaisedBy (era_within first last era) old new
raised-run old new first last era index size each reached within = record {
  size = size;
  each = λ block lt. elim (cases_lt last block) [
    | inl late ↦ each block lt ∙ ap (λ below. max (slice_index old block) (if nat_le first block && below then era else 0))
        (le-ltb block index (omega arith) ∙ sym (lt-leb block last late))
    | inr to ↦ each block lt ∙ ap (λ below. max (slice_index old block) (if nat_le first block && below then era else 0))
        (lt-ltb block index (reached block lt to) ∙ sym (le-leb block last to))
  ];
}

-- runs that end before a block
ends-later : (runs : List (ℕ × ℕ × ℕ)) (end later : ℕ) → EndWithin end runs → end ≤ later → EndWithin later runs
ends-later [] end later within le = tt
ends-later (run ∷ runs) end later within le = let last = within.0 in (omega arith, ends-later runs end later within.1 le)

ends-push : (runs : List (ℕ × ℕ × ℕ)) (run : ℕ × ℕ × ℕ) (end : ℕ) → EndWithin end runs → run.1 < end → EndWithin end (runs ++ run ∷ [])
ends-push [] run end within last = (last, tt)
ends-push (first ∷ runs) run end within last = (within.0, ends-push runs run end within.1 last)

-- a block behind runs has no entry by them
entry-ended : (runs : List (ℕ × ℕ × ℕ)) (end block : ℕ) → EndWithin end runs → end ≤ block → era_in_runs runs block ≡ 0
entry-ended [] end block within le = refl
entry-ended (run ∷ runs) end block within le =
    let last = within.0 in rw (behind-run run.0 run.1 block (omega arith), entry-ended runs end block within.1 le) refl

-- the entries of runs and of one more behind them
entry-early : (runs : List (ℕ × ℕ × ℕ)) (run : ℕ × ℕ × ℕ) (block : ℕ) → block < run.0 → era_in_runs (runs ++ run ∷ []) block ≡ era_in_runs runs block
entry-early [] run block early = rw (before-run run.0 run.1 block early) refl
entry-early (first ∷ runs) run block early =
    ap (λ rest. if nat_le first.0 block && nat_le block first.1 then first.2 else rest) (entry-early runs run block early)

entry-late : (runs : List (ℕ × ℕ × ℕ)) (run : ℕ × ℕ × ℕ) (block : ℕ) → EndWithin run.0 runs → run.0 ≤ block → block ≤ run.1 → era_in_runs (runs ++ run ∷ []) block ≡ run.2
entry-late [] run block within from to = rw (within-run run.0 run.1 block from to) refl
entry-late (first ∷ runs) run block within from to =
    let last = within.0 in rw (behind-run first.0 first.1 block (omega arith), entry-late runs run block within.1 from to) refl

-- with a run of equal entries more
pub listed-push : (runs : List (ℕ × ℕ × ℕ)) (first end era : ℕ) (entries : List ℕ) → first < end → ListEntries runs first entries
    → ((block : ℕ) → first ≤ block → block < end → slice_index entries block ≡ era) → ListEntries (runs ++ (first, end - 1, era) ∷ []) end entries
listed-push runs first end era entries some listed same = record {
  within = ends-push runs (first, end - 1, era) end (ends-later runs first end listed.within (omega arith)) (omega arith);
  each = λ block lt. elim (cases_lt block first) [
    | inl early ↦ entry-early runs (first, end - 1, era) block early ∙ listed.each block early
    | inr late ↦ entry-late runs (first, end - 1, era) block listed.within late (omega arith) ∙ sym (same block late lt)
  ];
}

-- without an era they have no run
pub listed-none : (runs : List (ℕ × ℕ × ℕ)) (first end era : ℕ) (entries : List ℕ) → first < end → era ≡ 0 → ListEntries runs first entries
    → ((block : ℕ) → first ≤ block → block < end → slice_index entries block ≡ era) → ListEntries runs end entries
listed-none runs first end era entries some none listed same = record {
  within = ends-later runs first end listed.within (omega arith);
  each = λ block lt. elim (cases_lt block first) [
    | inl early ↦ listed.each block early
    | inr late ↦ entry-ended runs first block listed.within late ∙ sym (same block late lt ∙ none)
  ];
}

-- a run behind a gap stands behind all
stands-gap : (runs : List (ℕ × ℕ × ℕ)) (first end era : ℕ) → EndWithin first runs → first < end → StandsBehindAll runs (end, end, era)
stands-gap [] first end era within lt = tt
stands-gap (run ∷ runs) first end era within lt =
    let last = within.0 in (record { later = omega arith; maximal = λ touches. absurd (omega arith) }, stands-gap runs first end era within.1 lt)

stands-push : (runs : List (ℕ × ℕ × ℕ)) (before run : ℕ × ℕ × ℕ) → StandsBehindAll runs run → StandsBehind before run → StandsBehindAll (runs ++ before ∷ []) run
stands-push [] before run all stands = (stands, tt)
stands-push (first ∷ runs) before run all stands = (all.0, stands-push runs before run all.1 stands)

-- what may stand behind one more run, and behind none more
pub next-stands : (runs : List (ℕ × ℕ × ℕ)) (first end era other : ℕ) → EndWithin first runs → first < end → (other ≡ era → ⊥)
    → StandsBehindAll (runs ++ (first, end - 1, era) ∷ []) (end, end, other)
next-stands runs first end era other within lt differ =
    stands-push runs (first, end - 1, era) (end, end, other) (stands-gap runs first end other within lt)
    (record { later = omega arith; maximal = λ touches same. differ (sym same) })

pub none-stands : (runs : List (ℕ × ℕ × ℕ)) (first end other : ℕ) → EndWithin first runs → first < end → StandsBehindAll runs (end, end, other)
none-stands runs first end other within lt = stands-gap runs first end other within lt

-- a run stands behind those that the first of its blocks stands behind
pub stands-longer : (runs : List (ℕ × ℕ × ℕ)) (first last era : ℕ) → StandsBehindAll runs (first, first, era) → StandsBehindAll runs (first, last, era)
stands-longer [] first last era all = tt
stands-longer (run ∷ runs) first last era all = let one = all.0 in (record { later = one.later; maximal = one.maximal }, stands-longer runs first last era all.1)

-- a copied run may stand behind those that were copied before it
begins-at : (before : ℕ × ℕ) (runs : List (ℕ × ℕ)) (i : ℕ) (d : ℕ × ℕ) → BeginsAfter before runs → AreRuns runs → i < length runs → before.1 + 1 < (get_or runs i d).0
begins-at before [] i d begins are lt = absurd (omega arith)
begins-at before (run ∷ runs) zero d begins are lt = begins
begins-at before (run ∷ runs) (suc i) d begins are lt =
    let next = begins-at run runs i d are.1 are.2 (omega arith) in let some = are.0 in omega (arith, next, begins, some)

pub ends-take : (runs : List (ℕ × ℕ)) (i : ℕ) (d : ℕ × ℕ) → AreRuns runs → i < length runs → EndsBefore (take i runs) (get_or runs i d).0
ends-take [] i d are lt = absurd (omega arith)
ends-take (run ∷ runs) zero d are lt = tt
ends-take (run ∷ runs) (suc i) d are lt = (begins-at run runs i d are.1 are.2 (omega arith), ends-take runs i d are.2 (omega arith))

pub some-at : (runs : List (ℕ × ℕ)) (i : ℕ) (d : ℕ × ℕ) → AreRuns runs → i < length runs → (get_or runs i d).0 ≤ (get_or runs i d).1
some-at [] i d are lt = absurd (omega arith)
some-at (run ∷ runs) zero d are lt = are.0
some-at (run ∷ runs) (suc i) d are lt = some-at runs i d are.2 (omega arith)

-- marks with the merged array in the place of their own, and without archived sets
pub fold-is : (m : BlockMarks) (g : Geometry) (era : ℕ) (array folded : List (ℕ × ℕ × ℕ)) (archive none : List MarkedSet) (current copy : List (ℕ × ℕ))
    → marks_of_runs g era array archive current ≡ m → none ≡ [] → copy ≡ current
    → eras_of_runs 0 (blocks_of g.sectors g.block_sectors) folded
    ≡ merged_array (sets_of_runs (blocks_of g.sectors g.block_sectors) archive) 0 (eras_of_runs 0 (blocks_of g.sectors g.block_sectors) array)
    → marks_of_runs g era folded none copy ≡ merged_marks m
fold-is m g era array folded archive none current copy is empty same entries =
    let blocks = blocks_of g.sectors g.block_sectors in
    let all : marks_of_runs g era folded [] current ≡ merged_marks (marks_of_runs g era array archive current) =
    ap (λ (list : List ℕ). let m : BlockMarks = record { sectors = g.sectors; block_sectors = g.block_sectors; era = era; array = list; archive = []; current = flags_of_runs 0 blocks current } in m) entries in
    ap (λ (sets : List MarkedSet). marks_of_runs g era folded sets copy) empty
    ∙ ap (λ (runs : List (ℕ × ℕ)). marks_of_runs g era folded [] runs) same ∙ all ∙ ap merged_marks is
