-- What legal acts say of their log: no drawer is above the keeper, and each draw meets what the gate answers for.
use Rattle.std.proofs.Common.{ℕ, List, [], ◌∷◌, ◌++◌, length, subst, arith}
use Rattle.era_model.specs.declared.entry.Entry.{Entry}
use Rattle.era_model.specs.declared.history.Happening.{Happening}
use Rattle.era_model.specs.declared.history.Happening.TheVariants.{Opened, Happened}
use Rattle.era_model.specs.declared.opening.Opening.{Opening}
use Rattle.era_model.specs.Journal.{history_after}
use Rattle.era_gate.specs.Acts.{Act, Account, stripe_drew, keeper_drew, stay_began, stay_ended, era_moved, exchange_failed, IsLegalFrom, after}
use Rattle.era_gate.specs.ModelLaw.{AllMeetGate, MeetsGate}
use Rattle.era_journal.specs.ActsLog.{log_after}
use Rattle.era_journal.proofs.Drews.{AreWithin}
use Rattle.era_notes.specs.Logs.{Draw, logged_history}
use Rattle.era_promise.specs.Owners.{logged_entries}
use Rattle.era_promise.proofs.LogPlaces.{whole-log}

-- drawers
pub acts-within : (n : ℕ) (a : Account) (log : List Draw) (acts : List Act) → IsLegalFrom n a acts → AreWithin n log → AreWithin n (log_after n log acts)
acts-within n a log [] legal within = within
acts-within n a log (stripe_drew k event ∷ acts) legal within =
    let low = legal.0.0 in
    acts-within n (after a (stripe_drew k event)) (record { drawer = k; event = event } ∷ log) acts legal.1 (omega (arith, low), within)
acts-within n a log (keeper_drew event ∷ acts) legal within =
    acts-within n (after a (keeper_drew event)) (record { drawer = n; event = event } ∷ log) acts legal.1 (omega arith, within)
acts-within n a log (stay_began stay ∷ acts) legal within = acts-within n (after a (stay_began stay)) log acts legal.1 within
acts-within n a log (stay_ended k begun ∷ acts) legal within = acts-within n (after a (stay_ended k begun)) log acts legal.1 within
acts-within n a log (era_moved ∷ acts) legal within = acts-within n (after a era_moved) log acts legal.1 within
acts-within n a log (exchange_failed miss ∷ acts) legal within = acts-within n (after a (exchange_failed miss)) log acts legal.1 within

-- Each draw meets what the gate answers for.
abbrev pub AllMeet : Opening → List Draw → Type 0
AllMeet opening [] = Unit {0}
AllMeet opening (draw ∷ earlier) = MeetsGate (logged_history opening earlier) draw.event × AllMeet opening earlier

meets-last : (h : List Happening) (entries : List Entry) (entry : Entry) → AllMeetGate h (entries ++ entry ∷ []) → AllMeetGate h entries × MeetsGate (history_after h entries) entry.event
meets-last h [] entry meet = (tt, meet.0)
meets-last h (first ∷ entries) entry meet = let rest = meets-last (Happened first.event ∷ h) entries entry meet.1 in ((meet.0, rest.0), rest.1)

pub all-meet : (opening : Opening) (log : List Draw) → AllMeetGate (Opened opening ∷ []) (logged_entries log) → AllMeet opening log
all-meet opening [] meet = tt
all-meet opening (draw ∷ earlier) meet =
    let split = meets-last (Opened opening ∷ []) (logged_entries earlier) (record { place = length earlier; event = draw.event }) meet in
    (subst (λ h. MeetsGate h draw.event) (whole-log opening earlier) split.1, all-meet opening earlier split.0)
