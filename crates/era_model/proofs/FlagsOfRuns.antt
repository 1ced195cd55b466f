-- Runs seen block by block.
use Rattle.std.proofs.Common.{◌≡◌, ℕ, zero, suc, ◌+◌, ◌<◌, ◌≤◌, max, false, ◌||◌, ◌&&◌, nat_le, List, [], ◌∷◌, ◌++◌, length, drop, get_or, refl, ap, arith, rules, if◌then◌else◌}
use Rattle.std.proofs.lemmas.List.{drop_more}
use Rattle.era_base.specs.Flags.{has}
use Rattle.era_base.specs.Geometry.{blocks_of}
use Rattle.era_base.specs.Runs.{EndsBefore, runs_cover}
use Rattle.era_base.specs.declared.geometry.Geometry.{Geometry}
use Rattle.era_model.specs.declared.marked_set.MarkedSet.{MarkedSet}
use Rattle.era_model.specs.MarkRuns.{era_in_runs, eras_of_runs, flags_of_runs, marks_of_runs, sets_of_runs}
use Rattle.era_model.specs.Marks.{entry_of, last_archived, marks_last_era}

-- the flag of a block tells whether it lies in one of the runs
pub flag_at : (first count : ℕ) (runs : List (ℕ × ℕ)) (i : ℕ) → i < count → has (flags_of_runs first count runs) i ≡ runs_cover runs (first + i)
flag_at first zero runs i lt = absurd (omega arith)
flag_at first (suc count) runs zero lt = let e : first + 0 ≡ first = omega arith in rw e refl
flag_at first (suc count) runs (suc i) lt =
    let e : first + suc i ≡ first + 1 + i = omega arith in
    rw e (flag_at (first + 1) count runs i (omega arith))

-- the entry of a block is the era of the run in which it lies
pub entry_at : (first count : ℕ) (runs : List (ℕ × ℕ × ℕ)) (i : ℕ) → i < count → entry_of (eras_of_runs first count runs) i ≡ era_in_runs runs (first + i)
entry_at first zero runs i lt = absurd (omega arith)
entry_at first (suc count) runs zero lt = let e : first + 0 ≡ first = omega arith in rw e refl
entry_at first (suc count) runs (suc i) lt =
    let e : first + suc i ≡ first + 1 + i = omega arith in
    rw e (entry_at (first + 1) count runs i (omega arith))

-- the same for a set whose blocks are counted from 0
pub flag_of : (count : ℕ) (runs : List (ℕ × ℕ)) (i : ℕ) → i < count → has (flags_of_runs 0 count runs) i ≡ runs_cover runs i
flag_of count runs i lt = let e : 0 + i ≡ i = omega arith in rw e at (flag_at 0 count runs i lt)

-- the same for an array whose blocks are counted from 0
pub entry_of_runs : (count : ℕ) (runs : List (ℕ × ℕ × ℕ)) (i : ℕ) → i < count → entry_of (eras_of_runs 0 count runs) i ≡ era_in_runs runs i
entry_of_runs count runs i lt = let e : 0 + i ≡ i = omega arith in rw e at (entry_at 0 count runs i lt)

-- the oldest set's era counts where its runs have the block
pub last_archived-first : (blocks : ℕ) (set : MarkedSet) (sets : List MarkedSet) (block : ℕ) → block < blocks
    → last_archived (sets_of_runs blocks (set ∷ sets)) block ≡ max (if runs_cover set.blocks block then set.era else 0) (last_archived (sets_of_runs blocks sets) block)
last_archived-first blocks set sets block lt =
    ap (λ flag. max (if flag then set.era else 0) (last_archived (sets_of_runs blocks sets) block)) (flag_of blocks set.blocks block lt)

-- what ends before a block ends before a later one
pub ends_before-later : (runs : List (ℕ × ℕ)) (block later : ℕ) → EndsBefore runs block → block ≤ later → EndsBefore runs later
ends_before-later [] block later ends le = tt
ends_before-later (run ∷ runs) block later ends le = let e = ends.0 in (omega arith, ends_before-later runs block later ends.1 le)

-- a run that ends before a block may stand behind the others
pub ends_before-push : (runs : List (ℕ × ℕ)) (run : ℕ × ℕ) (block : ℕ) → EndsBefore runs block → run.1 + 1 < block → EndsBefore (runs ++ run ∷ []) block
ends_before-push [] run block ends lt = (lt, tt)
ends_before-push (first ∷ runs) run block ends lt = (ends.0, ends_before-push runs run block ends.1 lt)

-- what ends before a block doesn't have it
pub cover-beyond : (runs : List (ℕ × ℕ)) (end block : ℕ) → EndsBefore runs end → end ≤ block → runs_cover runs block ≡ false
cover-beyond [] end block ends le = refl
cover-beyond (run ∷ runs) end block ends le =
    let e = ends.0 in let rest = cover-beyond runs end block ends.1 le in grind (arith, rest)

-- one more run has its own blocks beside those of the others
pub cover-push : (runs : List (ℕ × ℕ)) (run : ℕ × ℕ) (block : ℕ) → runs_cover (runs ++ run ∷ []) block ≡ (runs_cover runs block || (nat_le run.0 block && nat_le block run.1))
cover-push [] run block = search (rules)
cover-push (first ∷ runs) run block = let rest = cover-push runs run block in grind (arith, rest)

-- one more set was looked at
pub last_archived-more : (blocks : ℕ) (sets : List MarkedSet) (i : ℕ) (set : MarkedSet) (block last now total : ℕ) → block < blocks → i < length sets → set ≡ get_or sets i set
    → max last (last_archived (sets_of_runs blocks (drop i sets)) block) ≡ total → now ≡ max last (if runs_cover set.blocks block then set.era else 0)
    → max now (last_archived (sets_of_runs blocks (drop (i + 1) sets)) block) ≡ total
last_archived-more blocks sets i set block last now total within lt is so_far new =
    let rest = rw (drop_more sets i set lt, ← is) at so_far in
    let first = last_archived-first blocks set (drop (i + 1) sets) block within in
    omega (arith, rest, first, new)

-- the last marked era of a block is the greatest that the runs tell
pub last_era-of_runs : (g : Geometry) (era : ℕ) (array : List (ℕ × ℕ × ℕ)) (archive : List MarkedSet) (current : List (ℕ × ℕ)) (block entry archived present : ℕ)
    → block < blocks_of g.sectors g.block_sectors → entry ≡ era_in_runs array block
    → archived ≡ last_archived (sets_of_runs (blocks_of g.sectors g.block_sectors) archive) block → present ≡ (if runs_cover current block then era else 0)
    → max entry (max archived present) ≡ marks_last_era (marks_of_runs g era array archive current) block
last_era-of_runs g era array archive current block entry archived present within is_entry is_archived is_present =
    rw (entry_of_runs _ array block within, flag_of _ current block within, is_entry, is_archived, is_present) refl

-- no set has a block past the end
pub flag-beyond : (first count : ℕ) (runs : List (ℕ × ℕ)) (i : ℕ) → count ≤ i → has (flags_of_runs first count runs) i ≡ false
flag-beyond first zero runs i le = refl
flag-beyond first (suc count) runs zero le = absurd (omega arith)
flag-beyond first (suc count) runs (suc i) le = flag-beyond (first + 1) count runs i (omega arith)

-- no block past the end has an entry
pub entry-beyond : (first count : ℕ) (runs : List (ℕ × ℕ × ℕ)) (i : ℕ) → count ≤ i → entry_of (eras_of_runs first count runs) i ≡ 0
entry-beyond first zero runs i le = refl
entry-beyond first (suc count) runs zero le = absurd (omega arith)
entry-beyond first (suc count) runs (suc i) le = entry-beyond (first + 1) count runs i (omega arith)

-- no archived set has a block past the end
pub last_archived-beyond : (blocks : ℕ) (sets : List MarkedSet) (i : ℕ) → blocks ≤ i → last_archived (sets_of_runs blocks sets) i ≡ 0
last_archived-beyond blocks [] i le = refl
last_archived-beyond blocks (set ∷ sets) i le = rw (flag-beyond 0 blocks set.blocks i le, last_archived-beyond blocks sets i le) refl

-- a block past the end was never marked
pub last_era-beyond : (g : Geometry) (era : ℕ) (array : List (ℕ × ℕ × ℕ)) (archive : List MarkedSet) (current : List (ℕ × ℕ)) (block : ℕ)
    → blocks_of g.sectors g.block_sectors ≤ block → marks_last_era (marks_of_runs g era array archive current) block ≡ 0
last_era-beyond g era array archive current block le =
    let blocks = blocks_of g.sectors g.block_sectors in
    rw (entry-beyond 0 blocks array block le, last_archived-beyond blocks archive block le, flag-beyond 0 blocks current block le) refl
