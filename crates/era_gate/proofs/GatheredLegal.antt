-- A gathered journal is legal where the rest of each event's condition is met.
use Rattle.std.proofs.Common.{◌≡◌, true, List, [], ◌∷◌, refl, sym, subst}
use Rattle.std.proofs.Math.Seq.{take-length}
use Rattle.era_model.specs.declared.entry.Entry.{Entry}
use Rattle.era_model.specs.declared.event.Event.{Event}
use Rattle.era_model.specs.declared.event.Event.TheVariants.{Tried, Mark, Go, Done, Cut, Settle, Unsettled, Roll, Kept}
use Rattle.era_model.specs.declared.history.Happening.{Happening}
use Rattle.era_model.specs.declared.history.Happening.TheVariants.{Opened, Happened}
use Rattle.era_model.specs.declared.journal.Journal.{Journal}
use Rattle.era_model.specs.declared.opening.Opening.{Opening}
use Rattle.era_model.specs.History.{is_open}
use Rattle.era_model.specs.Journal.{history_after}
use Rattle.era_model.specs.Legal.{IsLegal, IsLegalJournal, IsOpening, MayHappen}
use Rattle.era_gate.specs.Acts.{Act}
use Rattle.era_gate.specs.Drawn.{drawn}
use Rattle.era_gate.specs.Gathered.{AllMeetRest, AreActsOf, AreGathered, account_of}
use Rattle.era_gate.specs.ModelLaw.{AllMeetGate, IsLeft, MeetsGate, stripe_at}
use Rattle.era_gate.proofs.AgreesMeets.{opened-meet}
use Rattle.era_gate.proofs.GatheredDrawers.{gathered-drawn, own-from_entries}

-- what the gate answers for and what is left make the model's condition
may-happen : (h : List Happening) (event : Event) → MeetsGate h event → IsLeft h event → MayHappen h event
may-happen h (Tried id block era) meets left = record { of_origin = left.of_origin; present = meets; unmarked = left.unmarked }
may-happen h (Mark id block era) meets left = record { of_origin = left.of_origin; tried = left.tried; present = meets }
may-happen h (Go id block era first bytes) meets left = record {
  of_origin = left.of_origin;
  whole = left.whole;
  place = left.place;
  marked = meets.marked;
  present = meets.present;
  alone = meets.alone;
  once = meets.once;
}
may-happen h (Done id) meets left = record { writing = meets }
may-happen h (Cut id faults) meets left = record { writing = meets; rose = left }
may-happen h (Settle by cut bytes) meets left = record { pending = meets; size = left }
may-happen h (Unsettled by cut faults) meets left = record { pending = meets; rose = left }
may-happen h (Roll id era) meets left = meets
may-happen h (Kept id inside) meets left = meets
may-happen h event meets left = left

-- a legal history with such entries is legal
history-legal : (h : List Happening) (entries : List Entry) → is_open h ≡ true → IsLegal h → AllMeetGate h entries → AllMeetRest h entries → IsLegal (history_after h entries)
history-legal h [] open' legal meet rest = legal
history-legal h (entry ∷ entries) open' legal meet rest =
    history-legal (Happened entry.event ∷ h) entries open' (open', may-happen h entry.event meet.0 rest.0, legal) meet.1 rest.1

-- the acts of a session meet what the gate answers for
pub acts-meet : (opening : Opening) (earlier : List Happening) (acts : List Act) → AreActsOf opening acts → AllMeetGate (Opened opening ∷ earlier) (drawn 0 acts)
acts-meet opening earlier acts are = opened-meet opening earlier acts are.legal (own-from_entries (stripe_at opening) opening.stripes opening.era acts are.legal are.own)

-- the history of what they drew is legal
pub drawn-legal : (opening : Opening) (earlier : List Happening) (acts : List Act) → IsLegal (Opened opening ∷ earlier) → AreActsOf opening acts → AllMeetRest (Opened opening ∷ earlier) (drawn 0 acts)
    → IsLegal (history_after (Opened opening ∷ earlier) (drawn 0 acts))
drawn-legal opening earlier acts before are rest = history-legal (Opened opening ∷ earlier) (drawn 0 acts) refl before (acts-meet opening earlier acts are) rest

-- and so is a gathered journal
pub journal-legal : (journal : Journal) (acts : List Act) → IsOpening journal.opening → AreActsOf journal.opening acts → AreGathered journal.opening.stripes (account_of journal.opening acts) journal.entries
    → AllMeetRest (Opened journal.opening ∷ []) journal.entries → IsLegalJournal journal
journal-legal journal acts opens are gathered rest =
    let same = gathered-drawn journal.opening.stripes journal.opening.era acts journal.entries gathered in
    let meet = subst (AllMeetGate (Opened journal.opening ∷ [])) (sym same) (acts-meet journal.opening [] acts are) in
    record {
      numbered = gathered.numbered;
      legal = subst (λ (es : List Entry). IsLegal (history_after (Opened journal.opening ∷ []) es)) (sym (take-length journal.entries))
          (history-legal (Opened journal.opening ∷ []) journal.entries refl (opens, tt) meet rest);
    }
