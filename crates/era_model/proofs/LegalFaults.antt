-- A cut write that is resolved before the era moves is legal, and an era that moves before isn't.
use Rattle.std.proofs.Common.{ℕ, List, take, refl, lit≤, lit<}
use Rattle.era_model.specs.declared.history.Happening.{Happening}
use Rattle.era_model.specs.Legal.{IsLegal, IsLegalJournal}
use Rattle.era_model.specs.Rows.{history_of, journal_of, small_opening, zeros}
use Rattle.era_model.specs.RowsOfFaults.{resolved_events, early_switch_events}
use Rattle.era_model.proofs.SmallOpening.{legal-small_opening}

-- the history with so many of the events
abbrev pub so_far : ℕ → List Happening
so_far count = history_of (small_opening 1 zeros) (take count resolved_events)

legal-asked : IsLegal (so_far 1)
legal-asked = (refl, record { of_origin = lit< tt; present = refl; unmarked = refl }, legal-small_opening 1 zeros (lit≤ tt) (lit≤ tt))

legal-marked : IsLegal (so_far 2)
legal-marked = (refl, record { of_origin = lit< tt; tried = refl; present = refl }, legal-asked)

legal-issued : IsLegal (so_far 3)
legal-issued = (refl, record { of_origin = lit< tt; whole = refl; place = refl; marked = refl; present = refl; alone = refl; once = refl }, legal-marked)

legal-cut : IsLegal (so_far 4)
legal-cut = (refl, record { writing = refl; rose = tt }, legal-issued)

legal-unresolved : IsLegal (so_far 5)
legal-unresolved = (refl, record { pending = refl; rose = lit≤ tt }, legal-cut)

legal-kept : IsLegal (so_far 6)
legal-kept = (refl, record { some = lit≤ tt; stripes = lit≤ tt }, legal-unresolved)

legal-resolved : IsLegal (so_far 7)
legal-resolved = (refl, record { pending = refl; size = refl }, legal-kept)

-- a cut write that a later checkpoint resolves is legal
pub legal-resolved_write : IsLegalJournal (journal_of (small_opening 1 zeros) resolved_events)
legal-resolved_write = record {
  numbered = (refl, (refl, (refl, (refl, (refl, (refl, (refl, (refl, tt))))))));
  legal = (refl, record { next = refl; quiet = refl }, legal-resolved);
}

-- an era that moves before the cut write is resolved isn't legal
pub illegal-early_switch : IsLegalJournal (journal_of (small_opening 1 zeros) early_switch_events) → ⊥
illegal-early_switch journal = let quiet = journal.legal.2.1.quiet in cc
