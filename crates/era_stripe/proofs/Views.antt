-- A stripe stands: over a draw, over device calls, and over stays in the gate.
use Rattle.std.proofs.Common.{◌≡◌, ℕ, ◌≤◌, Bool, true, List, [], ◌∷◌, ◌++◌, arith, refl, sym, ap, ◌∙◌, subst}
use Rattle.era_base.specs.CrashModel.{History, Continues, AllBetween, clock}
use Rattle.era_base.specs.Faults.{Rose}
use Rattle.era_gate.specs.Places.{AscendFrom}
use Rattle.era_gate.specs.StateAfter.{entry, flights, flight_after}
use Rattle.era_gate.specs.declared.states.StripeState.{StripeState}
use Rattle.era_model.specs.declared.event.Event.{Event}
use Rattle.era_model.specs.declared.history.Happening.TheVariants.{Happened}
use Rattle.era_model.specs.declared.opening.Opening.{Opening}
use Rattle.era_model.specs.History.{in_flight}
use Rattle.era_notes.specs.Notes.{Note, own_history, told_count, last_faults, TellsRisen, CountsRise}
use Rattle.era_notes.specs.Parts.{HoldsContent}
use Rattle.era_notes.proofs.Windows.{through-note, through-calls}
use Rattle.era_stripe.specs.OwnEntries.{OwnMay}
use Rattle.era_stripe.specs.Stripes.{StripeView, ViewStands, noted, left, called}

pub counts-later : (least now later : ℕ) (notes : List Note) → now ≤ later → CountsRise least now notes → CountsRise least later notes
counts-later least now later [] le rise = omega (arith, le, rise)
counts-later least now later (note ∷ earlier) le rise = (omega (arith, le, rise.0), rise.1, rise.2)

pub last_faults-le : (least now : ℕ) (notes : List Note) → CountsRise least now notes → last_faults least notes ≤ now
last_faults-le least now [] rise = rise
last_faults-le least now (note ∷ earlier) rise = rise.0

-- a count that rose since a later moment rose since an earlier one
pub rose-since : (earlier before now : ℕ) → earlier ≤ before → Rose before now → Rose earlier now
rose-since earlier before now le rose = omega (arith, le, rose)

-- what a draw owes of its event
pub record OwesDraw (tells : Bool) (opening : Opening) (view : StripeView) (event : Event) : Type 0 where
  pub may : OwnMay tells view.part view.index (own_history opening view.notes) event
  pub told : TellsRisen (told_count event) (last_faults view.least view.notes) view.faults
  pub flying : in_flight (Happened event ∷ own_history opening view.notes) ≡ flights (flight_after event view.state.flight)
  pub holds : tells ≡ true → HoldsContent view.part (Happened event ∷ own_history opening view.notes) view.history.now

pub stands-noted : (tells : Bool) (opening : Opening) (view : StripeView) (event : Event) (place : ℕ) → AscendFrom 0 (view.state.entries ++ entry place event ∷ [])
    → OwesDraw tells opening view event → ViewStands tells opening view → ViewStands tells opening (noted view event place)
stands-noted tells opening view event place next owes stands = record {
  part = stands.part;
  through = λ told. through-note (λ notes. HoldsContent view.part (own_history opening notes)) view.history view.begun
      (record { entry = entry place event; moment = clock view.history; faults = view.faults }) view.notes refl (owes.holds told) (stands.through told);
  flights = owes.flying;
  legal = (owes.may, stands.legal);
  counts = (omega arith, owes.told, stands.counts);
  entries = ap (λ entries. entries ++ entry place event ∷ []) stands.entries;
  kept = ap (λ entries. entries ++ entry place event ∷ []) stands.kept;
  places = next;
}

pub stands-called : (tells : Bool) (opening : Opening) (view : StripeView) (history : History) (faults : ℕ) → view.faults ≤ faults
    → (tells ≡ true → Continues view.history history × AllBetween history (clock view.history) (clock history) (HoldsContent view.part (own_history opening view.notes)))
    → ViewStands tells opening view → ViewStands tells opening (called view history faults)
stands-called tells opening view history faults le went stands = record {
  part = stands.part;
  through = λ told.
      let went = went told in
      through-calls (λ notes. HoldsContent view.part (own_history opening notes)) view.history history view.begun view.notes went.0 went.1 (stands.through told);
  flights = stands.flights;
  legal = stands.legal;
  counts = counts-later view.least view.faults faults view.notes le stands.counts;
  entries = stands.entries;
  kept = stands.kept;
  places = stands.places;
}

pub stands-left : (tells : Bool) (opening : Opening) (view : StripeView) → ViewStands tells opening view → ViewStands tells opening (left view)
stands-left tells opening view stands = record {
  part = stands.part;
  through = stands.through;
  flights = stands.flights;
  legal = stands.legal;
  counts = stands.counts;
  entries = stands.entries;
  kept = stands.kept;
  places = stands.places;
}

-- another stay in the gate
pub stands-stay : (tells : Bool) (opening : Opening) (view : StripeView) (state : StripeState) → state.flight ≡ view.state.flight → state.entries ≡ view.state.entries
    → ViewStands tells opening view → ViewStands tells opening (record view { state = state })
stands-stay tells opening view state flight entries stands = record {
  part = stands.part;
  through = stands.through;
  flights = stands.flights ∙ ap flights (sym flight);
  legal = stands.legal;
  counts = stands.counts;
  entries = stands.entries ∙ sym entries;
  kept = stands.kept ∙ sym entries;
  places = subst (AscendFrom 0) (sym entries) stands.places;
}
