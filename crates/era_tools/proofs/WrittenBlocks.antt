-- The blocks that were written, and one block more.
use Rattle.std.proofs.Common.{◌≡◌, ℕ, zero, suc, ◌+◌, ◌<◌, ◌≤◌, Bool, true, false, cond, max, List, [], ◌∷◌, ◌++◌, ap, sym, ◌∙◌, subst, arith, All}
use Rattle.std.specs.List.{filter}
use Rattle.std.specs.Prelude.{nat_le}
use Rattle.std.proofs.lemmas.List.{append-nil}
use Rattle.std.proofs.lemmas.List.Elements.{All-nil, All-cons, All-append, All-filter, filter-append}
use Rattle.era_layout.specs.Root.{numbers_from}
use Rattle.era_layout.proofs.Numbering.{numbers_more}
use Rattle.era_model.specs.Marks.{BlockMarks, blocks_of_marks, marks_last_era, written_since}
use Rattle.era_tools.specs.BackupText.{written_blocks}

numbers-next : (count : ℕ) → numbers_from 0 (count + 1) ≡ numbers_from 0 count ++ count ∷ []
numbers-next count = numbers_more 0 count ∙ ap (λ (n : ℕ). numbers_from 0 count ++ n ∷ []) (let e : 0 + count ≡ count = omega arith in e)

written-more : (m : BlockMarks) (since block : ℕ) (written : Bool) → written_since m since block ≡ written
    → filter (written_since m since) (numbers_from 0 (block + 1)) ≡ filter (written_since m since) (numbers_from 0 block) ++ cond written (block ∷ []) []
written-more m since block written is =
    ap (filter (written_since m since)) (numbers-next block)
    ∙ filter-append (written_since m since) (numbers_from 0 block) (block ∷ [])
    ∙ ap (λ b. filter (written_since m since) (numbers_from 0 block) ++ cond b (block ∷ []) []) is

-- the next block was written, or it wasn't
pub written-next : (m : BlockMarks) (since block : ℕ) (items : List ℕ) → items ≡ filter (written_since m since) (numbers_from 0 block)
    → nat_le (max since 1) (marks_last_era m block) ≡ true → items ++ block ∷ [] ≡ filter (written_since m since) (numbers_from 0 (block + 1))
written-next m since block items so_far is = ap (λ items. items ++ block ∷ []) so_far ∙ sym (written-more m since block true is)

pub written-past : (m : BlockMarks) (since block : ℕ) (items : List ℕ) → items ≡ filter (written_since m since) (numbers_from 0 block)
    → nat_le (max since 1) (marks_last_era m block) ≡ false → items ≡ filter (written_since m since) (numbers_from 0 (block + 1))
written-past m since block items so_far is = so_far ∙ sym (append-nil _) ∙ sym (written-more m since block false is)

numbers-below : (count : ℕ) (end : ℕ) → count ≤ end → All (λ number. number < end) (numbers_from 0 count)
numbers-below zero end fits = All-nil (λ number. number < end)
numbers-below (suc count) end fits =
    let next : numbers_from 0 (suc count) ≡ numbers_from 0 count ++ count ∷ [] =
    ap (numbers_from 0) (let e : suc count ≡ count + 1 = omega arith in e) ∙ numbers-next count in
    subst (All (λ number. number < end)) (sym next)
    (All-append (λ number. number < end) (numbers_from 0 count) (count ∷ []) (numbers-below count end (omega arith))
    (All-cons (λ number. number < end) count [] (omega arith) (All-nil (λ number. number < end))))

-- all of them are blocks
pub written-within : (m : BlockMarks) (since : ℕ) → All (λ block. block < blocks_of_marks m) (written_blocks m since)
written-within m since = All-filter (written_since m since) (λ block. block < blocks_of_marks m) _ (numbers-below (blocks_of_marks m) (blocks_of_marks m) (omega arith))
