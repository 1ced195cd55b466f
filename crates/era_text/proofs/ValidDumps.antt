-- The dump of valid marks is read back, and marks have one dump.
use Rattle.std.proofs.Common.{◌≡◌, ℕ, suc, ◌+◌, ◌<◌, ◌≤◌, ◌^◌, List, [], ◌∷◌, length, refl, ap, sym, ◌∙◌, subst, arith}
use Rattle.std.specs.Prelude.{true, nat_le, nat_lt}
use Rattle.std.proofs.lemmas.Bool.{and_parts, leb-true}
use Rattle.era_base.specs.Geometry.{blocks_of}
use Rattle.era_base.specs.declared.limits.TheConstants.{MOST_BLOCKS}
use Rattle.era_model.specs.EraRuns.{AreEraRuns, EndWithin, NextStandsBehind}
use Rattle.era_model.specs.MarkRuns.{SetsEndWithin, era_in_runs, flags_of_runs, sets_of_runs}
use Rattle.era_model.specs.Marks.{ArchivedSet, BlockMarks, blocks_of_marks}
use Rattle.era_model.specs.Validity.{AreArchivedBetween, AreValidMarks, entry_limit}
use Rattle.era_model.specs.declared.marked_set.MarkedSet.{MarkedSet}
use Rattle.era_model.proofs.FlagsOfRuns.{entry_of_runs}
use Rattle.era_line.specs.Lines.{lines_of, lines_text}
use Rattle.era_text.specs.DumpLaws.{DumpsReadBack, HaveOneDump, ReadOneWay}
use Rattle.era_text.specs.Dumps.{AreDumpLines, AreOfImage, AreSetRuns, listed_marks, marks_read}
use Rattle.era_text.specs.FirstLine.{Head, is_geometry}
use Rattle.era_text.specs.Grammar.{Whole, dump_end}
use Rattle.era_text.proofs.DumpsLead.{ReadsLists, dump-read, greatest-upto}
use Rattle.era_text.proofs.RunsLead.{AreUpTo}
use Rattle.era_text.proofs.TextLines.{HaveNoLf, lines-text, none-dump}
use Rattle.era_text.proofs.SameRuns.{flags-same}
use Rattle.era_text.proofs.SameEraRuns.{entries-same, entry-first, entry-rest}

-- runs begin at a block or behind it
abbrev BeginFrom : ℕ → List (ℕ × ℕ × ℕ) → Type 0
BeginFrom from [] = Unit {0}
BeginFrom from (run ∷ runs) = from ≤ run.0

-- the next run begins behind the one before
begin-behind : (run : ℕ × ℕ × ℕ) (runs : List (ℕ × ℕ × ℕ)) → NextStandsBehind run runs → BeginFrom (run.1 + 1) runs
begin-behind run [] next = tt
begin-behind run (other ∷ runs) next = let later = next.later in omega arith

-- where no entry is above a limit, no run's is
upto-entries : (limit blocks from : ℕ) (runs : List (ℕ × ℕ × ℕ)) → AreEraRuns runs → EndWithin blocks runs → BeginFrom from runs
    → ((block : ℕ) → from ≤ block → block < blocks → era_in_runs runs block ≤ limit) → AreUpTo limit runs
upto-entries limit blocks from [] are within begin entries = tt
upto-entries limit blocks from (run ∷ runs) are within begin entries =
    let some = are.0 in
    let end = within.0 in
    let here = entries run.0 begin (omega arith) in (
      subst (λ era. era ≤ limit) (entry-first run runs run.0 (omega arith) some) here,
      upto-entries limit blocks (run.1 + 1) runs are.3 within.1 (begin-behind run runs are.2) (λ block late lt.
          subst (λ era. era ≤ limit) (entry-rest run runs block (omega arith)) (entries block (omega arith) lt)),
    )

-- what numbers that are a geometry are
pub record IsFit (sectors size : ℕ) : Type 0 where
  pub small : size ≤ 128
  pub few : blocks_of sectors size ≤ MOST_BLOCKS

pub fit-geometry : (sectors size : ℕ) → is_geometry sectors size ≡ true → IsFit sectors size
fit-geometry sectors size is =
    let four = and_parts _ (nat_le (blocks_of sectors size) MOST_BLOCKS) is in
    let three = and_parts _ (nat_lt 0 sectors) four.0 in
    let two = and_parts _ (nat_le size 128) three.0 in
    record { small = leb-true size 128 two.1; few = leb-true (blocks_of sectors size) MOST_BLOCKS four.1 }

-- as many sets as there are lists of runs
length-sets : (blocks : ℕ) (sets : List MarkedSet) → length (sets_of_runs blocks sets) ≡ length sets
length-sets blocks [] = refl
length-sets blocks (set ∷ sets) = ap suc (length-sets blocks sets)

-- the limit of the entries is below the present era
limit-below : (blocks era : ℕ) (sets : List ArchivedSet) → 1 ≤ era → AreArchivedBetween blocks 0 era sets → entry_limit sets era < era
limit-below blocks era [] begun between = omega arith
limit-below blocks era (set ∷ sets) begun between = between.1

-- the lines of a text have these lists
record ReadsText (m : BlockMarks) (lines : List (List ℕ)) (dump : AreDumpLines m lines) : Type 0 where
  lists : ReadsLists lines (record { sectors = m.sectors; block_sectors = m.block_sectors; era = m.era }) dump.array dump.archive dump.current
  none : HaveNoLf lines

-- marks by their lists are read back
listed-read : (m : BlockMarks) (lines : List (List ℕ)) → AreOfImage m → AreValidMarks m → (dump : AreDumpLines m lines) → ReadsText m lines dump
listed-read m lines image valid dump =
    let head : Head = record { sectors = m.sectors; block_sectors = m.block_sectors; era = m.era } in
    let blocks = blocks_of_marks m in
    let listed : AreValidMarks (listed_marks m.sectors m.block_sectors m.era dump.array dump.archive dump.current) = subst AreValidMarks dump.runs.same valid in
    let fit = fit-geometry m.sectors m.block_sectors image.geometry in
    let sets = sets_of_runs blocks dump.archive in
    let limit = entry_limit sets m.era in
    let upto = upto-entries limit blocks 0 dump.array dump.runs.array_maximal dump.runs.within.array_within (begin-zero dump.array)
    (λ block from lt. subst (λ era. era ≤ limit) (entry_of_runs blocks dump.array block lt) (listed.entries block)) in
    let few : length dump.archive ≤ 16 = subst (λ count. count ≤ 16) (length-sets blocks dump.archive) listed.few_sets in
    let small : m.block_sectors < 2 ^ 32 = let s = fit.small in omega arith in
    let below = limit-below blocks m.era sets listed.begun listed.archive in
    record {
      lists = subst (λ all. ReadsLists all head dump.array dump.archive dump.current) (sym dump.spelled)
          (dump-read m.sectors m.block_sectors m.era limit dump.array dump.archive dump.current image.sectors_fit small image.era_fits image.geometry listed.begun fit.few
          below dump.runs.array_maximal dump.runs.within.array_within upto
          listed.archive dump.runs.sets_maximal dump.runs.within.archive_within few
          (λ set more is. greatest-upto set.era dump.array (subst (λ archive. AreUpTo (entry_limit (sets_of_runs blocks archive) m.era) dump.array) is upto))
          dump.runs.current_maximal dump.runs.within.current_within);
      none = subst HaveNoLf (sym dump.spelled)
          (none-dump m.sectors m.block_sectors m.era blocks limit dump.array dump.archive dump.current image.sectors_fit small image.era_fits fit.few below
          dump.runs.array_maximal dump.runs.within.array_within upto listed.archive dump.runs.sets_maximal dump.runs.within.archive_within
          dump.runs.current_maximal dump.runs.within.current_within);
    }
  where
    begin-zero : (runs : List (ℕ × ℕ × ℕ)) → BeginFrom 0 runs
    begin-zero [] = tt
    begin-zero (run ∷ runs) = omega arith

pub dumps-read : DumpsReadBack
dumps-read m text image valid dump =
    let reads = listed-read m dump.lines image valid dump.are in
    let lines : lines_of text ≡ dump.lines = ap lines_of dump.joined ∙ lines-text dump.lines reads.none in
    record {
      head = record { sectors = m.sectors; block_sectors = m.block_sectors; era = m.era };
      reading = reads.lists.reading;
      whole = ap dump_end lines ∙ reads.lists.whole;
      same = dump.are.runs.same ∙ rw (reads.lists.array_read, reads.lists.archive_read, reads.lists.current_read) refl;
    }

-- lines end in one way
pub read-one_way : ReadOneWay
read-one_way lines m other read read' =
    let ends : Whole read.head read.reading ≡ Whole read'.head read'.reading = sym read.whole ∙ read'.whole in
    let heads : read'.head ≡ read.head = cc in
    let readings : read'.reading ≡ read.reading = cc in
    read'.same ∙ ap (λ head. marks_read head read'.reading) heads ∙ ap (marks_read read.head) readings ∙ sym read.same

-- maximal runs of the same archived sets are the same
sets-same : (blocks : ℕ) (a b : List MarkedSet) → AreSetRuns a → AreSetRuns b → SetsEndWithin blocks a → SetsEndWithin blocks b
    → sets_of_runs blocks a ≡ sets_of_runs blocks b → a ≡ b
sets-same blocks [] [] are are' within within' same = refl
sets-same blocks [] (set ∷ b) are are' within within' same = cc
sets-same blocks (set ∷ a) [] are are' within within' same = cc
sets-same blocks (set ∷ a) (other ∷ b) are are' within within' same =
    let tails : sets_of_runs blocks a ≡ sets_of_runs blocks b = cc in
    let mine : ArchivedSet = record { era = set.era; blocks = flags_of_runs 0 blocks set.blocks } in
    let its : ArchivedSet = record { era = other.era; blocks = flags_of_runs 0 blocks other.blocks } in
    let firsts : mine ≡ its = cc in
    let eras : set.era ≡ other.era = ap (λ (s : ArchivedSet). s.era) firsts in
    let flags : flags_of_runs 0 blocks set.blocks ≡ flags_of_runs 0 blocks other.blocks = ap (λ (s : ArchivedSet). s.blocks) firsts in
    let runs = flags-same blocks set.blocks other.blocks are.0 are'.0 within.0 within'.0 flags in
    let rest = sets-same blocks a b are.1 are'.1 within.1 within'.1 tails in
    let one : set ≡ other = ap (λ era. let s : MarkedSet = record { era = era; blocks = set.blocks } in s) eras ∙ ap (λ blocks. let s : MarkedSet = record { era = other.era; blocks = blocks } in s) runs in
    ap (λ s. s ∷ a) one ∙ ap (λ sets. other ∷ sets) rest

one-lines : (m : BlockMarks) (lines others : List (List ℕ)) → AreDumpLines m lines → AreDumpLines m others → others ≡ lines
one-lines m lines others dump dump' =
    let blocks = blocks_of_marks m in
    let same = sym dump'.runs.same ∙ dump.runs.same in
    let arrays = entries-same blocks dump'.array dump.array dump'.runs.array_maximal dump.runs.array_maximal
    dump'.runs.within.array_within dump.runs.within.array_within (ap (λ (marks : BlockMarks). marks.array) same) in
    let sets = sets-same blocks dump'.archive dump.archive dump'.runs.sets_maximal dump.runs.sets_maximal
    dump'.runs.within.archive_within dump.runs.within.archive_within (ap (λ (marks : BlockMarks). marks.archive) same) in
    let currents = flags-same blocks dump'.current dump.current dump'.runs.current_maximal dump.runs.current_maximal
    dump'.runs.within.current_within dump.runs.within.current_within (ap (λ (marks : BlockMarks). marks.current) same) in
    dump'.spelled ∙ rw (arrays, sets, currents) (sym dump.spelled)

pub one-dump : HaveOneDump
one-dump m text other dump dump' = dump'.joined ∙ ap lines_text (one-lines m dump.lines dump'.lines dump.are dump'.are) ∙ sym dump.joined
