-- Digests that follow their rule are legal, and dropping a set before its page is transcribed isn't.
use Rattle.std.proofs.Common.{ℕ, List, [], take, refl, lit≤, lit<}
use Rattle.era_model.specs.declared.history.Happening.{Happening}
use Rattle.era_model.specs.Legal.{IsLegal, IsLegalJournal}
use Rattle.era_model.specs.Rows.{history_of, journal_of, small_opening}
use Rattle.era_model.specs.RowsOfDigests.{digested_events, early_drop_events}
use Rattle.era_model.proofs.SmallOpening.{legal-small_opening}

-- the history with so many of the events
abbrev pub so_far : ℕ → List Happening
so_far count = history_of (small_opening 4 []) (take count digested_events)

legal-asked : IsLegal (so_far 1)
legal-asked = (refl, record { of_origin = lit< tt; present = refl; unmarked = refl }, legal-small_opening 4 [] (lit≤ tt) (lit≤ tt))

legal-marked : IsLegal (so_far 2)
legal-marked = (refl, record { of_origin = lit< tt; tried = refl; present = refl }, legal-asked)

legal-issued : IsLegal (so_far 3)
legal-issued = (refl, record { of_origin = lit< tt; whole = refl; place = refl; marked = refl; present = refl; alone = refl; once = refl }, legal-marked)

legal-written : IsLegal (so_far 4)
legal-written = (refl, record { writing = refl }, legal-issued)

legal-switched : IsLegal (so_far 5)
legal-switched = (refl, record { next = refl; quiet = refl }, legal-written)

legal-transcribed : IsLegal (so_far 6)
legal-transcribed = (refl, record { step = refl }, legal-switched)

legal-set_dropped : IsLegal (so_far 7)
legal-set_dropped = (refl, record { step = refl }, legal-transcribed)

-- digests by their rule are legal
pub legal-digested : IsLegalJournal (journal_of (small_opening 4 []) digested_events)
legal-digested = record {
  numbered = (refl, (refl, (refl, (refl, (refl, (refl, (refl, (refl, tt))))))));
  legal = (refl, refl, legal-set_dropped);
}

-- a set that is dropped before its page is transcribed isn't legal
pub illegal-early_drop : IsLegalJournal (journal_of (small_opening 4 []) early_drop_events) → ⊥
illegal-early_drop journal = let step = journal.legal.2.2.1.step in cc
