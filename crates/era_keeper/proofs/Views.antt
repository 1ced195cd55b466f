-- A keeper's entries stand: over device calls, and over a draw.
use Rattle.std.proofs.Common.{◌≡◌, ℕ, ◌≤◌, Bool, true, [], ◌∷◌, ◌++◌, Option, arith, refl, sym, ap, ◌∙◌, subst}
use Rattle.era_base.specs.CrashModel.{History, clock}
use Rattle.era_gate.specs.Places.{AscendFrom}
use Rattle.era_gate.specs.StateAfter.{entry}
use Rattle.era_gate.specs.declared.states.KeeperState.{KeeperState}
use Rattle.era_model.specs.declared.event.Event.{Event}
use Rattle.era_model.specs.declared.history.Happening.TheVariants.{Happened}
use Rattle.era_model.specs.declared.opening.Opening.{Opening}
use Rattle.era_model.specs.Marks.{BlockMarks}
use Rattle.era_model.specs.Promises.{MarksFollowJournal}
use Rattle.era_meta.specs.Meaning.{Meaning}
use Rattle.era_notes.specs.Notes.{own_history, told_count, last_faults, TellsRisen}
use Rattle.era_notes.proofs.Windows.{through-note, through-calls}
use Rattle.era_keeper.specs.Keepers.{EntriesStand, KeeperView, ViewStands, noted}
use Rattle.era_keeper.specs.OwnEntries.{KeeperMay, MarksAreKept}
use Rattle.era_keeper.specs.Recovery.{LeavesRecovered}
use Rattle.era_keeper.proofs.Backs.{Moments}
use Rattle.era_keeper.proofs.Counts.{counts-later}

-- what contracts see of a keeper after device calls
abbrev pub called : KeeperView → History → ℕ → BlockMarks → Option BlockMarks → Bool → ℕ → KeeperView
called view history faults marks held unstored total =
    record view { history = history; faults = faults; marks = marks; held = held; unstored = unstored; total = total }

-- what a draw owes to the entries
pub record OwesEntry (tells : Bool) (opening : Opening) (view : KeeperView) (event : Event) : Type 0 where
  pub may : KeeperMay (own_history opening view.notes) event
  pub told : TellsRisen (told_count event) (last_faults view.least view.notes) view.faults
  pub follows : MarksFollowJournal (Happened event ∷ own_history opening view.notes)
  pub marked : MarksAreKept (Happened event ∷ own_history opening view.notes)
  pub leaves : tells ≡ true → LeavesRecovered (Happened event ∷ own_history opening view.notes) view.history.now

pub entries-noted : (tells : Bool) (opening : Opening) (view : KeeperView) (event : Event) (place : ℕ) → OwesEntry tells opening view event
    → AscendFrom 0 (view.state.entries ++ entry place event ∷ []) → EntriesStand tells opening view → EntriesStand tells opening (noted view event place)
entries-noted tells opening view event place owes next stands = record {
  opens = stands.opens;
  total = stands.total;
  legal = (owes.may, stands.legal);
  follows = owes.follows;
  marked = owes.marked;
  through = λ told. through-note (λ notes. LeavesRecovered (own_history opening notes)) view.history view.begun
      (record { entry = entry place event; moment = clock view.history; faults = view.faults }) view.notes refl (owes.leaves told) (stands.through told);
  counts = (omega arith, owes.told, stands.counts);
  entries = ap (λ entries. entries ++ entry place event ∷ []) stands.entries;
  kept = ap (λ entries. entries ++ entry place event ∷ []) stands.kept;
  places = next;
}

pub entries-called : (tells : Bool) (opening : Opening) (view : KeeperView) (history : History) (faults : ℕ) (marks : BlockMarks) (held : Option BlockMarks) (unstored : Bool) (total : ℕ)
    → total ≡ view.total → view.faults ≤ faults → (tells ≡ true → Moments (own_history opening view.notes) view.history history)
    → EntriesStand tells opening view → EntriesStand tells opening (called view history faults marks held unstored total)
entries-called tells opening view history faults marks held unstored total same le went stands = record {
  opens = stands.opens;
  total = same ∙ stands.total;
  legal = stands.legal;
  follows = stands.follows;
  marked = stands.marked;
  through = λ told.
      let went = went told in
      through-calls (λ notes. LeavesRecovered (own_history opening notes)) view.history history view.begun view.notes went.0 went.1 (stands.through told);
  counts = counts-later view.least view.faults faults view.notes le stands.counts;
  entries = stands.entries;
  kept = stands.kept;
  places = stands.places;
}

-- another state in the gate, with the same entries
pub entries-state : (tells : Bool) (opening : Opening) (view : KeeperView) (state : KeeperState) → state.entries ≡ view.state.entries
    → EntriesStand tells opening view → EntriesStand tells opening (record view { state = state })
entries-state tells opening view state same stands = record {
  opens = stands.opens;
  total = stands.total;
  legal = stands.legal;
  follows = stands.follows;
  marked = stands.marked;
  through = stands.through;
  counts = stands.counts;
  entries = stands.entries ∙ sym same;
  kept = stands.kept ∙ sym same;
  places = subst (AscendFrom 0) (sym same) stands.places;
}

pub stands-state : (tells : Bool) (opening : Opening) (Back : Meaning → Type 0) (view : KeeperView) (state : KeeperState) → state.entries ≡ view.state.entries
    → ViewStands tells opening Back view → ViewStands tells opening Back (record view { state = state })
stands-state tells opening Back view state same stands = record {
  own = entries-state tells opening view state same stands.own;
  marks = stands.marks;
  held = stands.held;
  back = stands.back;
  unstored = stands.unstored;
}
