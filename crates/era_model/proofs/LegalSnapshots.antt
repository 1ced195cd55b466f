-- Taking, listing and dropping a snapshot is legal, and a dropping that is refused while one is held isn't.
use Rattle.std.proofs.Common.{◌≡◌, ℕ, zero, suc, true, false, List, [], ◌&&◌, ◌||◌, take, refl, lit≤, lit<, nat_le, nat_lt}
use Rattle.std.proofs.Math.Dec.{leb-zero, leb-suc-zero, eqb-zero-suc}
use Rattle.era_model.specs.declared.history.Happening.{Happening}
use Rattle.era_model.specs.Legal.{IsLegal, IsLegalJournal}
use Rattle.era_model.specs.Marking.{journal_last_era}
use Rattle.era_model.specs.Marks.{no_marks, written_since}
use Rattle.era_model.specs.Rows.{history_of, journal_of, small_opening}
use Rattle.era_model.specs.RowsOfFaults.{snapshot_events, early_refusal_events}
use Rattle.era_model.proofs.SmallOpening.{legal-small_opening, entry_of-zeros, has-none}

-- the history with so many of the events
abbrev pub so_far : ℕ → List Happening
so_far count = history_of (small_opening 4 []) (take count snapshot_events)

-- no block of marks without any is written since era 1
unwritten : (block : ℕ) → written_since (no_marks 512 8 1) 1 block ≡ false
unwritten block = rw (entry_of-zeros 64 block, has-none 64 block) refl

-- neither is a block listed
none-listed : (block : ℕ) → false ≡ (nat_lt block 64 && written_since (no_marks 512 8 1) 1 block)
none-listed block =
    rw (unwritten block) (elim (nat_lt block 64) as (λ below. false ≡ (below && false)) [ true ↦ refl | false ↦ refl ])

-- the one block that was marked is listed, and no other one
one-listed : (block : ℕ) → ((nat_le 0 block && nat_le block 0) || false) ≡ (nat_lt block 64 && nat_le 1 (journal_last_era (so_far 8) block))
one-listed zero = refl
one-listed (suc block) = rw (leb-zero (suc block), leb-suc-zero block, eqb-zero-suc block) (none-listed (suc block))

legal-taken : IsLegal (so_far 1)
legal-taken = (refl, record { block_two = refl; none = refl }, legal-small_opening 4 [] (lit≤ tt) (lit≤ tt))

legal-refused : IsLegal (so_far 2)
legal-refused = (refl, record { block_two = refl; held = refl }, legal-taken)

legal-told : IsLegal (so_far 3)
legal-told = (refl, record { usage = (lit≤ tt, lit≤ tt); size = refl; present = refl; snapshot = refl }, legal-refused)

legal-asked : IsLegal (so_far 4)
legal-asked = (refl, record { of_origin = lit< tt; present = refl; unmarked = refl }, legal-told)

legal-marked : IsLegal (so_far 5)
legal-marked = (refl, record { of_origin = lit< tt; tried = refl; present = refl }, legal-asked)

legal-issued : IsLegal (so_far 6)
legal-issued = (refl, record { of_origin = lit< tt; whole = refl; place = refl; marked = refl; present = refl; alone = refl; once = refl }, legal-marked)

legal-written : IsLegal (so_far 7)
legal-written = (refl, record { writing = refl }, legal-issued)

legal-snapshot_listed : IsLegal (so_far 8)
legal-snapshot_listed = (refl, record { maximal = tt; exact = none-listed }, legal-written)

legal-listed : IsLegal (so_far 9)
legal-listed = (refl, record { maximal = (lit≤ tt, tt, tt); exact = one-listed }, legal-snapshot_listed)

legal-dropped : IsLegal (so_far 10)
legal-dropped = (refl, record { held = refl }, legal-listed)

legal-drop_refused : IsLegal (so_far 11)
legal-drop_refused = (refl, refl, legal-dropped)

-- a session that takes, lists and drops a snapshot is legal
pub legal-snapshots : IsLegalJournal (journal_of (small_opening 4 []) snapshot_events)
legal-snapshots = record {
  numbered = (refl, (refl, (refl, (refl, (refl, (refl, (refl, (refl, (refl, (refl, (refl, (refl, tt))))))))))));
  legal = (refl, refl, legal-drop_refused);
}

-- a dropping that is refused while a snapshot is held isn't legal
pub illegal-early_refusal : IsLegalJournal (journal_of (small_opening 4 []) early_refusal_events) → ⊥
illegal-early_refusal journal = let none = journal.legal.2.2.1 in cc
