-- A chain with a failed write, a crash and a reopening is legal.
use Rattle.std.proofs.Common.{◌≡◌, ◌≢◌, ℕ, Some, zero, suc, ◌*◌, ◌-◌, ◌≤◌, false, ◌&&◌, ◌||◌, List, [], ◌∷◌, ◌++◌, drop, get_or, length, replicate, take, refl, ap, sym, ◌∙◌, lit≤, lit<, arith, inl}
use Rattle.std.specs.Prelude.{nat_le, nat_lt}
use Rattle.std.proofs.lemmas.Bool.{ne_eqb}
use Rattle.std.proofs.lemmas.Bool.Decides.{nat_tests}
use Rattle.std.proofs.lemmas.List.{get_or-append_right}
use Rattle.era_model.specs.declared.history.Happening.{Happening}
use Rattle.era_model.specs.declared.history.Happening.TheVariants.{Opened, Crashed}
use Rattle.era_model.specs.Chains.{IsSessionChain}
use Rattle.era_model.specs.Changed.{IsCrashContent}
use Rattle.era_model.specs.Crashes.{MayCrash, image_of}
use Rattle.era_model.specs.Journal.{history_after}
use Rattle.era_model.specs.Legal.{IsLegal}
use Rattle.era_model.specs.Marks.{no_marks, with_block}
use Rattle.era_model.specs.MarkLaws.{MarkGivesEra}
use Rattle.era_model.specs.Recovered.{HasJournalLast}
use Rattle.era_model.specs.Rows.{entries_from, history_of, sector_of, small_opening, zeros}
use Rattle.era_model.specs.RowsOfCrashes.{crash_images, crashed_events, crashed_history, crashed_session, reopened_events, reopened_journal, reopened_opening}
use Rattle.era_model.specs.Writes.{block_bytes}
use Rattle.era_model.proofs.SmallOpening.{entry_of-zeros, legal-small_opening, valid-no_marks}
use Rattle.era_model.proofs.SwitchLasts.{mark-gives}

-- the first session with so many of its events
abbrev pub so_far : ℕ → List Happening
so_far count = history_of (small_opening 1 zeros) (take count crashed_events)

legal-asked : IsLegal (so_far 1)
legal-asked = (refl, record { of_origin = lit< tt; present = refl; unmarked = refl }, legal-small_opening 1 zeros (lit≤ tt) (lit≤ tt))

legal-marked : IsLegal (so_far 2)
legal-marked = (refl, record { of_origin = lit< tt; tried = refl; present = refl }, legal-asked)

legal-issued : IsLegal (so_far 3)
legal-issued = (refl, record { of_origin = lit< tt; whole = refl; place = refl; marked = refl; present = refl; alone = refl; once = refl }, legal-marked)

legal-cut : IsLegal (so_far 4)
legal-cut = (refl, record { writing = refl; rose = tt }, legal-issued)

legal-asked_again : IsLegal crashed_history
legal-asked_again = (refl, record { of_origin = lit< tt; present = refl; unmarked = refl }, legal-cut)

-- behind the first sector
past-sector : (offset : ℕ) → ((nat_le 0 offset && nat_lt offset 512) || false) ≡ false → 512 ≤ offset
past-sector offset outside = grind (arith, nat_tests)

-- behind the first sector all bytes are as they were
same-behind : (offset : ℕ) → ((nat_le 0 offset && nat_lt offset 512) || false) ≡ false → get_or (sector_of 85 ++ replicate 3584 0) offset 0 ≡ get_or zeros offset 0
same-behind offset outside =
    get_or-append_right (sector_of 85) (replicate 3584 0) 512 offset 0 refl (past-sector offset outside)
    ∙ entry_of-zeros 3584 (offset - 512) ∙ sym (entry_of-zeros 4096 offset)

-- a list has nothing behind its end
drop-past : (bytes : List ℕ) (count : ℕ) → length bytes ≤ count → drop count bytes ≡ []
drop-past [] zero short = refl
drop-past [] (suc count) short = refl
drop-past (byte ∷ bytes) zero short = absurd (omega arith)
drop-past (byte ∷ bytes) (suc count) short = drop-past bytes count (omega arith)

-- one block of bytes is all that block 0 has, and the others have none
block-past : (bytes : List ℕ) (block : ℕ) → length bytes ≡ 4096 → block_bytes 8 bytes (suc block) ≡ []
block-past bytes block size = ap (λ rest. take (8 * 512) rest) (drop-past bytes (suc block * 8 * 512) (omega arith))

-- what the crash left of each block is possible
possible : (block : ℕ) → IsCrashContent crashed_history block (image_of crashed_history crash_images block)
possible zero = record { size = refl; same = same-behind }
possible (suc block) =
    let left = block-past (sector_of 85 ++ replicate 3584 0) block refl in let was = block-past zeros block refl in
    record { size = ap length left ∙ sym (ap length was); same = λ offset outside. ap (λ bytes. get_or bytes offset 0) left ∙ sym (ap (λ bytes. get_or bytes offset 0) was) }

-- the marks with block 0, and with block 1 as well
first-marked : MarkGivesEra (no_marks 512 8 1) 0
first-marked = mark-gives (no_marks 512 8 1) 0 valid-no_marks (lit< tt)

both-marked : MarkGivesEra (with_block (no_marks 512 8 1) 0) 1
both-marked = mark-gives (with_block (no_marks 512 8 1) 0) 1 first-marked.valid (lit< tt)

-- but for block 1 they are the journal's
lasts-left : (block : ℕ) → block ≢ 1 → HasJournalLast crashed_history crash_images.marks block
lasts-left block apart = both-marked.lasts block ∙ rw (ne_eqb 1 block (λ e. apart (sym e))) (first-marked.lasts block)

crash-possible : MayCrash crashed_history crash_images
crash-possible = record {
  origin = record { size = refl; blocks = λ block within. possible block };
  metadata = record {
    valid = both-marked.valid;
    sectors = refl;
    block_sectors = refl;
    exception = Some 1;
    lasts = (record { later = lit< tt; tried = refl }, λ block within apart. lasts-left block apart);
    era = inl refl;
    valid_snapshot = tt;
    snapshot = inl refl;
  };
}

-- the next session with so many of its events
abbrev pub reopened_so_far : ℕ → List Happening
reopened_so_far count = history_after (Opened reopened_opening ∷ Crashed crash_images ∷ crashed_history) (entries_from 0 (take count reopened_events))

legal-reopened : IsLegal (reopened_so_far 0)
legal-reopened = (
  record { below_last = lit< tt; era = refl; marks = refl; held = refl; geometry = refl; total = refl; contents = refl; some_stripe = lit≤ tt; few_stripes = lit≤ tt },
  (refl, crash-possible, legal-asked_again),
)

legal-asked_later : IsLegal (reopened_so_far 1)
legal-asked_later = (refl, record { of_origin = lit< tt; present = refl; unmarked = refl }, legal-reopened)

legal-marked_later : IsLegal (reopened_so_far 2)
legal-marked_later = (refl, record { of_origin = lit< tt; tried = refl; present = refl }, legal-asked_later)

legal-issued_later : IsLegal (reopened_so_far 3)
legal-issued_later = (refl, record { of_origin = lit< tt; whole = refl; place = refl; marked = refl; present = refl; alone = refl; once = refl }, legal-marked_later)

legal-done_later : IsLegal (reopened_so_far 4)
legal-done_later = (refl, record { writing = refl }, legal-issued_later)

-- both sessions are a chain
pub legal-chain : IsSessionChain (crashed_session ∷ []) reopened_journal
legal-chain = record {
  ended = ((refl, (refl, (refl, (refl, (refl, tt))))), lit≤ tt, tt);
  numbered = (refl, (refl, (refl, (refl, (refl, tt)))));
  legal = (refl, record { next = refl; quiet = refl }, legal-done_later);
}
