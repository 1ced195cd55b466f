-- The lines of a dump are read as the lists of runs that they were written from.
use Rattle.std.proofs.Common.{◌≡◌, ℕ, ◌+◌, ◌<◌, ◌≤◌, ◌^◌, List, [], ◌∷◌, ◌++◌, refl, ap, sym, ◌∙◌, subst, append_assoc, arith}
use Rattle.std.specs.Prelude.{true, map}
use Rattle.std.proofs.lemmas.List.{append-nil}
use Rattle.era_base.specs.Runs.{AreRuns}
use Rattle.era_model.specs.EraRuns.{AreEraRuns, EndWithin}
use Rattle.era_model.specs.MarkRuns.{SetEndsWithin}
use Rattle.era_model.specs.declared.marked_set.MarkedSet.{MarkedSet}
use Rattle.era_text.specs.DumpLines.{era_run_line, run_line}
use Rattle.era_text.specs.FirstLine.{Head, Tells, blocks_in, is_apart, last_of, with_set_begun, with_set_ended}
use Rattle.era_text.specs.Grammar.{after_step, line_step, rest_end}
use Rattle.era_text.specs.declared.reading.Reading.{Reading}
use Rattle.era_text.specs.declared.section.Section.{Section}
use Rattle.era_text.specs.declared.section.Section.TheVariants.{Array, Set}
use Rattle.era_text.proofs.WrittenSteps.{apart-last, array-run-told, at_section, behind-last}

-- what was read with these lines goes on, behind some of them, from something else
pub record Leads (head : Head) (lines : List (List ℕ)) (number : ℕ) (reading : Reading) (more : List (List ℕ)) (next : Reading) : Type 0 where
  pub later : ℕ
  pub same : rest_end head lines number reading ≡ rest_end head more later next

-- no line leads nowhere
pub leads-none : (head : Head) (lines : List (List ℕ)) (number : ℕ) (reading next : Reading) → reading ≡ next → Leads head lines number reading lines next
leads-none head lines number reading next same = record { later = number; same = ap (rest_end head lines number) same }

-- a line that tells something, and those behind it
pub leads-line : (head : Head) (line : List ℕ) (lines more : List (List ℕ)) (number : ℕ) (reading middle next : Reading)
    → line_step head reading line ≡ Tells middle → Leads head lines (number + 1) middle more next → Leads head (line ∷ lines) number reading more next
leads-line head line lines more number reading middle next told leads = record {
  later = leads.later;
  same = ap (after_step (number + 1) (λ value. rest_end head lines (number + 1) value)) told ∙ leads.same;
}

-- lines and more lines
pub leads-then : (head : Head) (lines middle_lines more : List (List ℕ)) (number : ℕ) (reading middle next : Reading)
    → Leads head lines number reading middle_lines middle → ((later : ℕ) → Leads head middle_lines later middle more next) → Leads head lines number reading more next
leads-then head lines middle_lines more number reading middle next one rest = let other = rest one.later in record {
  later = other.later;
  same = one.same ∙ other.same;
}

-- the runs of a set of this section are read one after another
abbrev pub ReadsRuns : Head → Section → Type 0
ReadsRuns head section = (reading : Reading) (run : ℕ × ℕ) → run.0 ≤ run.1 → run.1 < blocks_in head → is_apart (last_of reading.blocks) run.0 ≡ true
    → line_step head (at_section section reading) (run_line run) ≡ Tells (at_section section (record reading { blocks = reading.blocks ++ run ∷ [] }))

abbrev pub with_blocks : List (ℕ × ℕ) → Section → Reading → Reading
with_blocks blocks section reading = at_section section (record reading { blocks = blocks })

-- a run among maximal ones has a block
some-block : (done : List (ℕ × ℕ)) (run : ℕ × ℕ) (runs : List (ℕ × ℕ)) → AreRuns (done ++ run ∷ runs) → run.0 ≤ run.1
some-block [] run runs are = are.0
some-block (before ∷ done) run runs are = some-block done run runs are.2

pub runs-lead : (head : Head) (section : Section) → ReadsRuns head section → (runs more : _) (number : ℕ) (reading : Reading)
    → AreRuns (reading.blocks ++ runs) → SetEndsWithin (blocks_in head) runs
    → Leads head (map run_line runs ++ more) number (at_section section reading) more (with_blocks (reading.blocks ++ runs) section reading)
runs-lead head section reads [] more number reading are within =
    leads-none head more number _ _ (ap (λ blocks. with_blocks blocks section reading) (sym (append-nil reading.blocks)))
runs-lead head section reads (run ∷ runs) more number reading are within =
    let next = record reading { blocks = reading.blocks ++ run ∷ [] } in
    let all : reading.blocks ++ run ∷ [] ++ runs ≡ reading.blocks ++ run ∷ runs = append_assoc reading.blocks (run ∷ []) runs in
    leads-line head (run_line run) (map run_line runs ++ more) more number (at_section section reading) (at_section section next) _
    (reads reading run (some-block reading.blocks run runs are) within.0 (apart-last reading.blocks run runs are))
    (subst (λ blocks. Leads head (map run_line runs ++ more) (number + 1) (at_section section next) more (with_blocks blocks section reading)) all
    (runs-lead head section reads runs more (number + 1) next (subst AreRuns (sym all) are) within.1))

-- no entry of the array is above the limit
abbrev pub AreUpTo : ℕ → List (ℕ × ℕ × ℕ) → Type 0
AreUpTo limit [] = Unit {0}
AreUpTo limit (run ∷ runs) = (run.2 ≤ limit) × AreUpTo limit runs

-- a run of the array among maximal ones has a block and an era
some-entry : (done : List (ℕ × ℕ × ℕ)) (run : ℕ × ℕ × ℕ) (runs : List (ℕ × ℕ × ℕ)) → AreEraRuns (done ++ run ∷ runs) → (run.0 ≤ run.1) × (0 < run.2)
some-entry [] run runs are = (are.0, are.1)
some-entry (before ∷ done) run runs are = some-entry done run runs are.3

abbrev pub with_array : List (ℕ × ℕ × ℕ) → Reading → Reading
with_array array reading = at_section Array (record reading { array = array })

-- the runs of the array are read one after another
pub array-leads : (head : Head) (limit : ℕ) (runs : List (ℕ × ℕ × ℕ)) (more : List (List ℕ)) (number : ℕ) (reading : Reading)
    → blocks_in head ≤ 65536 → head.era < 2 ^ 32 → limit < head.era
    → AreEraRuns (reading.array ++ runs) → EndWithin (blocks_in head) runs → AreUpTo limit runs
    → Leads head (map era_run_line runs ++ more) number (at_section Array reading) more (with_array (reading.array ++ runs) reading)
array-leads head limit [] more number reading few fits past are within upto =
    leads-none head more number _ _ (ap (λ array. with_array array reading) (sym (append-nil reading.array)))
array-leads head limit (run ∷ runs) more number reading few fits past are within upto =
    let next = record reading { array = reading.array ++ run ∷ [] } in
    let all : reading.array ++ run ∷ [] ++ runs ≡ reading.array ++ run ∷ runs = append_assoc reading.array (run ∷ []) runs in
    let some = some-entry reading.array run runs are in
    let below : run.2 < head.era = let u = upto.0 in omega arith in
    leads-line head (era_run_line run) (map era_run_line runs ++ more) more number (at_section Array reading) (at_section Array next) _
    (array-run-told head (at_section Array reading) run refl few fits some.0 within.0 some.1 below (behind-last reading.array run runs are))
    (subst (λ array. Leads head (map era_run_line runs ++ more) (number + 1) (at_section Array next) more (with_array array reading)) all
    (array-leads head limit runs more (number + 1) next few fits past (subst AreEraRuns (sym all) are) within.1 upto.1))

-- what was read once these sets were, where the last of them hasn't ended
abbrev pub sets_read : Reading → List MarkedSet → Reading
sets_read reading [] = reading
sets_read reading (set ∷ sets) = sets_read (with_blocks set.blocks Set (with_set_begun set.era (with_set_ended reading))) sets

-- the array stays
pub sets_read-array : (reading : Reading) (sets : List MarkedSet) → (sets_read reading sets).array ≡ reading.array
sets_read-array reading [] = refl
sets_read-array reading (set ∷ sets) = sets_read-array (with_blocks set.blocks Set (with_set_begun set.era (with_set_ended reading))) sets

-- the section stays
pub sets_read-section : (reading : Reading) (sets : List MarkedSet) → reading.section ≡ Set → (sets_read reading sets).section ≡ Set
sets_read-section reading [] here = here
sets_read-section reading (set ∷ sets) here = sets_read-section (with_blocks set.blocks Set (with_set_begun set.era (with_set_ended reading))) sets refl

-- all of them stand behind those from before
pub sets_read-archive : (reading : Reading) (sets : List MarkedSet) → (with_set_ended (sets_read reading sets)).archive ≡ (with_set_ended reading).archive ++ sets
sets_read-archive reading [] = sym (append-nil _)
sets_read-archive reading (set ∷ sets) =
    sets_read-archive (with_blocks set.blocks Set (with_set_begun set.era (with_set_ended reading))) sets
    ∙ append_assoc (with_set_ended reading).archive (set ∷ []) sets
