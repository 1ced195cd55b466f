-- The text that is given is that of the dump's lines, and a text of lines has these lines.
use Rattle.std.proofs.Common.{◌≡◌, ℕ, List, [], ◌∷◌, ◌++◌, refl, ap, sym, ◌∙◌, append_assoc}
use Rattle.std.specs.Prelude.{map, codes}
use Rattle.era_line.specs.Lines.{lines_text}
use Rattle.era_model.specs.declared.marked_set.MarkedSet.{MarkedSet}
use Rattle.era_text.specs.DumpLines.{archive_lines, current_lines, dump_lines, era_run_line, head_line, run_line, set_line}
use Rattle.era_text.specs.Pieces.{current_text, ended, lines_text_of, lists_text, set_text, sets_text}

-- a line for each item, and other lines
text-items : {A : Type 0} (line : A → List ℕ) (items : List A) (more : List (List ℕ))
    → lines_text (map line items ++ more) ≡ lines_text_of line items ++ lines_text more
text-items line [] more = refl
text-items line (item ∷ items) more =
    sym (append_assoc (line item) (10 ∷ []) (lines_text (map line items ++ more)))
    ∙ ap (λ rest. ended (line item) ++ rest) (text-items line items more)
    ∙ sym (append_assoc (ended (line item)) (lines_text_of line items) (lines_text more))

-- the lines of archived sets, and other lines
text-sets : (sets : List MarkedSet) (more : List (List ℕ)) → lines_text (archive_lines sets ++ more) ≡ sets_text sets ++ lines_text more
text-sets [] more = refl
text-sets (set ∷ sets) more =
    let lines : map run_line set.blocks ++ archive_lines sets ++ more ≡ map run_line set.blocks ++ (archive_lines sets ++ more)
    = append_assoc (map run_line set.blocks) (archive_lines sets) more in
    let runs = lines_text_of run_line set.blocks in
    let others = lines_text (archive_lines sets ++ more) in
    ap (λ rest. set_line set.era ++ 10 ∷ lines_text rest) lines
    ∙ ap (λ rest. set_line set.era ++ 10 ∷ rest) (text-items run_line set.blocks (archive_lines sets ++ more))
    ∙ sym (append_assoc (set_line set.era) (10 ∷ []) (runs ++ others))
    ∙ sym (append_assoc (ended (set_line set.era)) runs others)
    ∙ ap (λ rest. set_text set ++ rest) (text-sets sets more)
    ∙ sym (append_assoc (set_text set) (sets_text sets) (lines_text more))

-- the lines of the current set
text-current : (runs : List (ℕ × ℕ)) → lines_text (current_lines runs) ≡ current_text runs
text-current runs = ap (λ rest. codes "current" ++ 10 ∷ rest) (text-items run_line runs (codes "end" ∷ []))

-- all lines of a dump
pub text-dump : (sectors size era : ℕ) (array : List (ℕ × ℕ × ℕ)) (archive : List MarkedSet) (current : List (ℕ × ℕ))
    → lines_text (dump_lines sectors size era array archive current) ≡ lists_text sectors size era array archive current
text-dump sectors size era array archive current =
    let behind = lines_text_of era_run_line array ++ (sets_text archive ++ current_text current) in
    ap (λ rest. head_line sectors size era ++ 10 ∷ (codes "array" ++ 10 ∷ rest))
    (text-items era_run_line array (archive_lines archive ++ current_lines current)
    ∙ ap (λ rest. lines_text_of era_run_line array ++ rest) (text-sets archive (current_lines current)
    ∙ ap (λ rest. sets_text archive ++ rest) (text-current current)))
    ∙ sym (append_assoc (head_line sectors size era) (10 ∷ []) (codes "array\n" ++ behind))
    ∙ sym (append_assoc (ended (head_line sectors size era)) (codes "array\n") behind)
