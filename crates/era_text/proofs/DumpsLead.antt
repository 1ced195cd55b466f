-- The lines of a whole dump are read as the lists of runs that they were written from.
use Rattle.std.proofs.Common.{◌≡◌, ℕ, ◌+◌, ◌<◌, ◌≤◌, ◌^◌, List, [], ◌∷◌, ◌++◌, length, refl, ap, sym, ◌∙◌, subst, append_assoc, length-append, arith}
use Rattle.std.specs.Prelude.{true, map, codes}
use Rattle.std.proofs.lemmas.Bool.{lt-ltb, le-ltb, lt-leb}
use Rattle.era_base.specs.Runs.{AreRuns}
use Rattle.era_model.specs.EraRuns.{AreEraRuns, EndWithin}
use Rattle.era_model.specs.MarkRuns.{SetEndsWithin, SetsEndWithin, sets_of_runs}
use Rattle.era_model.specs.Validity.{AreArchivedBetween}
use Rattle.era_model.specs.declared.marked_set.MarkedSet.{MarkedSet}
use Rattle.era_text.specs.DumpLines.{archive_lines, current_lines, dump_lines, era_run_line, run_line, set_line}
use Rattle.era_text.specs.Dumps.{AreSetRuns}
use Rattle.era_text.specs.FirstLine.{Head, Tells, blocks_in, greatest_era, is_geometry, start, with_current_begun, with_set_begun, with_set_ended}
use Rattle.era_text.specs.Grammar.{Whole, after_step, dump_end, line_step, rest_end}
use Rattle.era_text.specs.declared.reading.Reading.{Reading}
use Rattle.era_text.specs.declared.section.Section.TheVariants.{Array, Set, Current, Done}
use Rattle.era_text.proofs.WrittenSteps.{at_section, current-run-told, first-set-told, head-told, next-set-told, set-run-told}
use Rattle.era_text.proofs.RunsLead.{AreUpTo, Leads, array-leads, leads-line, leads-none, leads-then, runs-lead, sets_read, sets_read-archive, sets_read-array, sets_read-section, with_array}

-- the line of a further set, above the one before
next-told : (head : Head) (reading : Reading) (era : ℕ) → reading.section ≡ Set → head.era < 2 ^ 32 → reading.set_era < era → era < head.era
    → length reading.archive + 1 < 16 → line_step head reading (set_line era) ≡ Tells (with_set_begun era (with_set_ended reading))
next-told head reading era here fits above past few =
    next-set-told head reading era here (omega arith)
    ∙ rw (lt-leb era reading.set_era above, lt-ltb 0 era (omega arith), lt-ltb era head.era past, lt-leb 16 (length reading.archive + 1) few) refl

-- the line of the first set, not below an entry of the array
first-told : (head : Head) (reading : Reading) (era : ℕ) → reading.section ≡ Array → head.era < 2 ^ 32 → 0 < era → era < head.era
    → greatest_era reading.array ≤ era → line_step head reading (set_line era) ≡ Tells (with_set_begun era reading)
first-told head reading era here fits begun past above =
    first-set-told head reading era here (omega arith)
    ∙ rw (lt-ltb 0 era begun, lt-ltb era head.era past, le-ltb era (greatest_era reading.array) above) refl

-- no era is above the limit
pub greatest-upto : (limit : ℕ) (runs : List (ℕ × ℕ × ℕ)) → AreUpTo limit runs → greatest_era runs ≤ limit
greatest-upto limit [] upto = omega arith
greatest-upto limit (run ∷ runs) upto = let u = upto.0 in let rest = greatest-upto limit runs upto.1 in omega arith

-- the archived sets are read one after another
sets-lead : (head : Head) (sets : List MarkedSet) (more : List (List ℕ)) (number : ℕ) (reading : Reading)
    → blocks_in head ≤ 65536 → head.era < 2 ^ 32
    → AreArchivedBetween (blocks_in head) reading.set_era head.era (sets_of_runs (blocks_in head) sets) → AreSetRuns sets → SetsEndWithin (blocks_in head) sets
    → length reading.archive + 1 + length sets ≤ 16
    → Leads head (archive_lines sets ++ more) number (at_section Set reading) more (sets_read (at_section Set reading) sets)
sets-lead head [] more number reading few fits between are within room = leads-none head more number _ _ refl
sets-lead head (set ∷ sets) more number reading few fits between are within room =
    let here = at_section Set reading in
    let begun = with_set_begun set.era (with_set_ended here) in
    let done = record begun { blocks = set.blocks } in
    let lines : map run_line set.blocks ++ archive_lines sets ++ more ≡ map run_line set.blocks ++ (archive_lines sets ++ more)
    = append_assoc (map run_line set.blocks) (archive_lines sets) more in
    let above : reading.set_era < set.era = between.0 in
    let past : set.era < head.era = between.1 in
    let few_sets : length reading.archive + 1 < 16 = omega arith in
    let fewer : length done.archive + 1 + length sets ≤ 16 = simp length-append (omega arith) in
    leads-line head (set_line set.era) (map run_line set.blocks ++ archive_lines sets ++ more) more number here begun _
    (next-told head here set.era refl fits above past few_sets)
    (subst (λ all. Leads head all (number + 1) begun more (sets_read here (set ∷ sets))) (sym lines)
    (leads-then head (map run_line set.blocks ++ (archive_lines sets ++ more)) (archive_lines sets ++ more) more (number + 1) begun (at_section Set done) _
    (runs-lead head Set (λ reading run some below apart. set-run-told head reading run few some below apart) set.blocks (archive_lines sets ++ more) (number + 1) begun are.0 within.0)
    (λ later. sets-lead head sets more later done few fits between.3 are.1 within.1 fewer)))

-- what was read once the archived sets were and the current set has begun
pub record ReadsArchive (head : Head) (archive : List MarkedSet) (number : ℕ) (reading : Reading) (more : List (List ℕ)) : Type 0 where
  pub next : Reading
  pub leads : Leads head (archive_lines archive ++ codes "current" ∷ more) number reading more (at_section Current next)
  pub array : next.array ≡ reading.array
  pub archived : next.archive ≡ archive
  pub blocks : next.blocks ≡ []

-- the line of the current set behind an archived one
ends-set : (head : Head) (reading : Reading) (number : ℕ) (more : List (List ℕ)) → reading.section ≡ Set
    → Leads head (codes "current" ∷ more) number reading more (at_section Current (with_current_begun (with_set_ended reading)))
ends-set head reading number more here =
    leads-line head (codes "current") more more number reading _ _ (rw here refl) (leads-none head more (number + 1) _ _ refl)

archive-read : (head : Head) (archive : List MarkedSet) (more : List (List ℕ)) (number : ℕ) (array : List (ℕ × ℕ × ℕ))
    → blocks_in head ≤ 65536 → head.era < 2 ^ 32
    → AreArchivedBetween (blocks_in head) 0 head.era (sets_of_runs (blocks_in head) archive) → AreSetRuns archive → SetsEndWithin (blocks_in head) archive
    → length archive ≤ 16
    → ((set : MarkedSet) (sets : List MarkedSet) → archive ≡ set ∷ sets → greatest_era array ≤ set.era)
    → ReadsArchive head archive number (with_array array start) more
archive-read head [] more number array few fits between are within room least = record {
  next = with_current_begun (with_array array start);
  leads = leads-line head (codes "current") more more number (with_array array start) _ _ refl (leads-none head more (number + 1) _ _ refl);
  array = refl;
  archived = refl;
  blocks = refl;
}
archive-read head (set ∷ sets) more number array few fits between are within room least =
    let begun = with_set_begun set.era (with_array array start) in
    let done = record begun { blocks = set.blocks } in
    let last = sets_read (at_section Set done) sets in
    let behind = codes "current" ∷ more in
    let lines : map run_line set.blocks ++ archive_lines sets ++ behind ≡ map run_line set.blocks ++ (archive_lines sets ++ behind)
    = append_assoc (map run_line set.blocks) (archive_lines sets) behind in
    let positive : 0 < set.era = between.0 in
    let past : set.era < head.era = between.1 in
    let fewer : length done.archive + 1 + length sets ≤ 16 = omega arith in
    record {
      next = with_current_begun (with_set_ended last);
      leads = leads-line head (set_line set.era) (map run_line set.blocks ++ archive_lines sets ++ behind) more number (with_array array start) begun _
          (first-told head (with_array array start) set.era refl fits positive past (least set sets refl))
          (subst (λ all. Leads head all (number + 1) begun more (at_section Current (with_current_begun (with_set_ended last)))) (sym lines)
          (leads-then head (map run_line set.blocks ++ (archive_lines sets ++ behind)) (archive_lines sets ++ behind) more (number + 1) begun (at_section Set done) _
          (runs-lead head Set (λ reading run some below apart. set-run-told head reading run few some below apart) set.blocks (archive_lines sets ++ behind) (number + 1) begun are.0 within.0)
          (λ later. leads-then head (archive_lines sets ++ behind) behind more later (at_section Set done) last _
          (sets-lead head sets behind later done few fits between.3 are.1 within.1 fewer)
          (λ latest. ends-set head last latest more (sets_read-section (at_section Set done) sets refl)))));
      array = sets_read-array (at_section Set done) sets;
      archived = sets_read-archive (at_section Set done) sets;
      blocks = refl;
    }

-- lines are read as these lists
pub record ReadsLists (lines : List (List ℕ)) (head : Head) (array : List (ℕ × ℕ × ℕ)) (archive : List MarkedSet) (current : List (ℕ × ℕ)) : Type 0 where
  pub reading : Reading
  pub whole : dump_end lines ≡ Whole head reading
  pub array_read : reading.array ≡ array
  pub archive_read : reading.archive ≡ archive
  pub current_read : reading.blocks ≡ current

-- a whole dump is read
pub dump-read : (sectors size era limit : ℕ) (array : List (ℕ × ℕ × ℕ)) (archive : List MarkedSet) (current : List (ℕ × ℕ))
    → let head : Head = record { sectors = sectors; block_sectors = size; era = era } in
    sectors < 2 ^ 64 → size < 2 ^ 32 → era < 2 ^ 32 → is_geometry sectors size ≡ true → 0 < era → blocks_in head ≤ 65536
    → limit < era → AreEraRuns array → EndWithin (blocks_in head) array → AreUpTo limit array
    → AreArchivedBetween (blocks_in head) 0 era (sets_of_runs (blocks_in head) archive) → AreSetRuns archive → SetsEndWithin (blocks_in head) archive
    → length archive ≤ 16 → ((set : MarkedSet) (sets : List MarkedSet) → archive ≡ set ∷ sets → greatest_era array ≤ set.era)
    → AreRuns current → SetEndsWithin (blocks_in head) current
    → ReadsLists (dump_lines sectors size era array archive current) head array archive current
dump-read sectors size era limit array archive current fits fits' fits'' geometry begun few past are within upto between sets sets_within room least runs runs_within =
    let head : Head = record { sectors = sectors; block_sectors = size; era = era } in
    let at_array = at_section Array start in
    let behind = archive_lines archive ++ current_lines current in
    let ending = map run_line current ++ codes "end" ∷ [] in
    let one = array-leads head limit array behind 2 start few fits'' past are within upto in
    let two = archive-read head archive ending one.later array few fits'' between sets sets_within room least in
    let next = two.next in
    let are_all : AreRuns (next.blocks ++ current) = subst (λ blocks. AreRuns (blocks ++ current)) (sym two.blocks) runs in
    let three = runs-lead head Current (λ reading run some below apart. current-run-told head reading run few some below apart) current (codes "end" ∷ []) two.leads.later next are_all runs_within in
    record {
      reading = at_section Done (record next { blocks = next.blocks ++ current });
      whole = ap (after_step 1 (λ head. rest_end head (codes "array" ∷ (map era_run_line array ++ behind)) 1 start)) (head-told sectors size era fits fits' fits'' geometry begun)
          ∙ one.same ∙ two.leads.same ∙ three.same;
      array_read = two.array;
      archive_read = two.archived;
      current_read = ap (λ blocks. blocks ++ current) two.blocks;
    }
