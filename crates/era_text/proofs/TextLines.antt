-- The text of a dump has the dump's lines.
use Rattle.std.proofs.Common.{◌≡◌, ◌≢◌, ℕ, ◌<◌, ◌≤◌, ◌^◌, List, [], ◌∷◌, ◌++◌, refl, ap, ◌∙◌, arith}
use Rattle.std.specs.Prelude.{map, codes, decimal}
use Rattle.std.proofs.lemmas.List.Elements.{All-cons, All-append}
use Rattle.era_base.specs.Runs.{AreRuns}
use Rattle.era_line.specs.Lines.{HasNo, lines_of, lines_text}
use Rattle.era_line.proofs.Lines.{lines_of-ended}
use Rattle.era_model.specs.EraRuns.{AreEraRuns, EndWithin}
use Rattle.era_model.specs.MarkRuns.{SetEndsWithin, SetsEndWithin, sets_of_runs}
use Rattle.era_model.specs.Validity.{AreArchivedBetween}
use Rattle.era_model.specs.declared.marked_set.MarkedSet.{MarkedSet}
use Rattle.era_text.specs.DumpLines.{archive_lines, current_lines, dump_lines, era_run_line, run_line}
use Rattle.era_text.specs.Dumps.{AreSetRuns}
use Rattle.era_text.proofs.RunsLead.{AreUpTo}
use Rattle.era_text.proofs.WordsOfLines.{HasNo-decimal, none-written}

-- none of the lines has an LF
abbrev pub HaveNoLf : List (List ℕ) → Type 0
HaveNoLf [] = Unit {0}
HaveNoLf (line ∷ lines) = HasNo 10 line × HaveNoLf lines

-- such lines are those of their text
pub lines-text : (lines : List (List ℕ)) → HaveNoLf lines → lines_of (lines_text lines) ≡ lines
lines-text [] none = refl
lines-text (line ∷ lines) none = lines_of-ended line (lines_text lines) none.0 ∙ ap (λ rest. line ∷ rest) (lines-text lines none.1)

-- lines and more lines
none-append : (lines more : List (List ℕ)) → HaveNoLf lines → HaveNoLf more → HaveNoLf (lines ++ more)
none-append [] more none none' = none'
none-append (line ∷ lines) more none none' = (none.0, none-append lines more none.1 none')

abbrev NotLf : ℕ → Type 0
NotLf byte = byte ≢ 10

-- a number, a space and what stands behind it
none-number : (n : ℕ) (rest : List ℕ) → n < 2 ^ 64 → HasNo 10 rest → HasNo 10 (decimal n ++ 32 ∷ rest)
none-number n rest fits none = All-append NotLf (decimal n) (32 ∷ rest) (HasNo-decimal 10 n (omega arith) fits) (All-cons NotLf 32 rest (λ e. omega arith) none)

none-run : (run : ℕ × ℕ) → run.0 < 2 ^ 64 → run.1 < 2 ^ 64 → HasNo 10 (run_line run)
none-run run fits fits' = none-number run.0 (decimal run.1) fits (HasNo-decimal 10 run.1 (omega arith) fits')

-- the lines of runs
none-runs : (blocks : ℕ) (runs : List (ℕ × ℕ)) → blocks ≤ 65536 → AreRuns runs → SetEndsWithin blocks runs → HaveNoLf (map run_line runs)
none-runs blocks [] few are within = tt
none-runs blocks (run ∷ runs) few are within =
    let some = are.0 in let last = within.0 in
    (none-run run (omega arith) (omega arith), none-runs blocks runs few are.2 within.1)

none-array : (blocks limit : ℕ) (runs : List (ℕ × ℕ × ℕ)) → blocks ≤ 65536 → limit < 2 ^ 32 → AreEraRuns runs → EndWithin blocks runs → AreUpTo limit runs
    → HaveNoLf (map era_run_line runs)
none-array blocks limit [] few fits are within upto = tt
none-array blocks limit (run ∷ runs) few fits are within upto =
    let some = are.0 in let last = within.0 in let era = upto.0 in (
      none-number run.0 (decimal run.1 ++ 32 ∷ decimal run.2) (omega arith) (none-number run.1 (decimal run.2) (omega arith) (HasNo-decimal 10 run.2 (omega arith) (omega arith))),
      none-array blocks limit runs few fits are.3 within.1 upto.1,
    )

-- the lines of archived sets
none-sets : (blocks above below : ℕ) (sets : List MarkedSet) → blocks ≤ 65536 → below < 2 ^ 32 → AreArchivedBetween blocks above below (sets_of_runs blocks sets)
    → AreSetRuns sets → SetsEndWithin blocks sets → HaveNoLf (archive_lines sets)
none-sets blocks above below [] few fits between are within = tt
none-sets blocks above below (set ∷ sets) few fits between are within =
    let past : set.era < below = between.1 in (
      All-append NotLf (codes "set ") (decimal set.era) (none-written 10 (codes "set ") refl) (HasNo-decimal 10 set.era (omega arith) (omega arith)),
      none-append (map run_line set.blocks) (archive_lines sets) (none-runs blocks set.blocks few are.0 within.0)
          (none-sets blocks set.era below sets few fits between.3 are.1 within.1),
    )

-- all lines of a dump
pub none-dump : (sectors size era blocks limit : ℕ) (array : List (ℕ × ℕ × ℕ)) (archive : List MarkedSet) (current : List (ℕ × ℕ))
    → sectors < 2 ^ 64 → size < 2 ^ 32 → era < 2 ^ 32 → blocks ≤ 65536 → limit < era → AreEraRuns array → EndWithin blocks array → AreUpTo limit array
    → AreArchivedBetween blocks 0 era (sets_of_runs blocks archive) → AreSetRuns archive → SetsEndWithin blocks archive
    → AreRuns current → SetEndsWithin blocks current → HaveNoLf (dump_lines sectors size era array archive current)
none-dump sectors size era blocks limit array archive current fits fits' fits'' few past runs within upto between sets sets_within marked marked_within = (
  All-append NotLf (codes "eradump 1 ") (decimal sectors ++ 32 ∷ (decimal size ++ 32 ∷ decimal era)) (none-written 10 (codes "eradump 1 ") refl)
      (none-number sectors (decimal size ++ 32 ∷ decimal era) fits (none-number size (decimal era) (omega arith) (HasNo-decimal 10 era (omega arith) (omega arith)))),
  (
    none-written 10 (codes "array") refl,
    none-append (map era_run_line array) (archive_lines archive ++ current_lines current) (none-array blocks limit array few (omega arith) runs within upto)
        (none-append (archive_lines archive) (current_lines current) (none-sets blocks 0 era archive few fits'' between sets sets_within) (
          none-written 10 (codes "current") refl,
          none-append (map run_line current) (codes "end" ∷ []) (none-runs blocks current few marked marked_within) (none-written 10 (codes "end") refl, tt),
        )),
  ),
)
