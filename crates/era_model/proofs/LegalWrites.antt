-- Two writes to one block are legal, and a write before its mark isn't.
use Rattle.std.proofs.Common.{◌≡◌, ℕ, true, false, List, ◌++◌, take, replicate, refl, lit≤, lit<}
use Rattle.era_model.specs.declared.history.Happening.{Happening}
use Rattle.era_model.specs.Legal.{IsLegal, IsLegalJournal}
use Rattle.era_model.specs.Rows.{history_of, journal_of, sector_of, small_opening, zeros}
use Rattle.era_model.specs.RowsOfWrites.{read_back_events, early_write_events}
use Rattle.era_model.proofs.SmallOpening.{legal-small_opening, index-front}

-- the history with so many of the events
abbrev pub so_far : ℕ → List Happening
so_far count = history_of (small_opening 4 zeros) (take count read_back_events)

legal-asked : IsLegal (so_far 1)
legal-asked = (refl, record { of_origin = lit< tt; present = refl; unmarked = refl }, legal-small_opening 4 zeros (lit≤ tt) (lit≤ tt))

legal-marked : IsLegal (so_far 2)
legal-marked = (refl, record { of_origin = lit< tt; tried = refl; present = refl }, legal-asked)

legal-first : IsLegal (so_far 3)
legal-first = (refl, record { of_origin = lit< tt; whole = refl; place = refl; marked = refl; present = refl; alone = refl; once = refl }, legal-marked)

legal-first_done : IsLegal (so_far 4)
legal-first_done = (refl, record { writing = refl }, legal-first)

legal-second : IsLegal (so_far 5)
legal-second = (refl, record { of_origin = lit< tt; whole = refl; place = refl; marked = refl; present = refl; alone = refl; once = refl }, legal-first_done)

legal-second_done : IsLegal (so_far 6)
legal-second_done = (refl, record { writing = refl }, legal-second)

-- two writes and a read of what they wrote are legal
pub legal-read_back : IsLegalJournal (journal_of (small_opening 4 zeros) read_back_events)
legal-read_back = record {
  numbered = (refl, (refl, (refl, (refl, (refl, (refl, (refl, tt)))))));
  legal = (
    refl,
    record {
      whole = refl;
      block = 0;
      first = 0;
      place = refl;
      same = λ known offset within clear. index-front (sector_of 170 ++ sector_of 187) (replicate 3072 0) offset within;
    },
    legal-second_done,
  );
}

-- a write that is issued before its mark is stored isn't legal
pub illegal-early_write : IsLegalJournal (journal_of (small_opening 4 zeros) early_write_events) → ⊥
illegal-early_write journal = let marked : false ≡ true = journal.legal.2.2.2.2.2.1.marked in cc
