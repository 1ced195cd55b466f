-- A keeper stands over a draw: what the event owes, and what an event that leaves the marks owes.
use Rattle.std.proofs.Common.{◌≡◌, ℕ, Bool, true, false, List, [], ◌∷◌, ◌++◌, refl, sym, ap, ◌∙◌, subst, inl}
use Rattle.std.proofs.lemmas.Bool.{false≢true}
use Rattle.era_base.specs.CrashModel.{Leaves}
use Rattle.era_base.specs.declared.disk.Disk.{Ghosts}
use Rattle.era_gate.specs.Places.{AscendFrom}
use Rattle.era_gate.specs.StateAfter.{entry}
use Rattle.era_meta.specs.declared.metadata.Meta.{Meta}
use Rattle.era_meta.specs.Meaning.{Meaning, IsImageOf}
use Rattle.era_model.specs.declared.event.Event.{Event}
use Rattle.era_model.specs.declared.event.Event.TheVariants.{Tried, Kept, List as ListEvent, Status, Refused}
use Rattle.era_model.specs.declared.history.Happening.{Happening}
use Rattle.era_model.specs.declared.history.Happening.TheVariants.{Happened}
use Rattle.era_model.specs.declared.opening.Opening.{Opening}
use Rattle.era_model.specs.Marking.{held_of, marks_of}
use Rattle.era_model.specs.Promises.{MarksFollowJournal}
use Rattle.era_model.specs.Recovered.{MayHaveEra, changes_snapshot, is_committed, is_switch, is_write}
use Rattle.era_notes.specs.Notes.{own_history, told_count, last_faults, TellsRisen}
use Rattle.era_keeper.specs.declared.keeper.Keeper.{Keeper}
use Rattle.era_keeper.specs.Calls.{SameRest}
use Rattle.era_keeper.specs.Keepers.{EntriesStand, KeeperStands, KeeperView, ViewStands, comes_back, noted, view_of}
use Rattle.era_keeper.specs.OwnEntries.{KeeperMay, MarksAreKept}
use Rattle.era_keeper.specs.Recovery.{ComesBack, HasFailedSwitch}
use Rattle.era_keeper.specs.Steps.{IsQuiet}
use Rattle.era_keeper.proofs.Fails.{fails-before, switch-still-failed}
use Rattle.era_keeper.proofs.Follows.{follows-same, kept-same}
use Rattle.era_keeper.proofs.Views.{entries-noted}
use Rattle.era_keeper.proofs.Words.{SameWords, lasts-none, quiet-words, recovered-again}

-- what a draw owes
pub record OwesDraw (tells : Bool) (opening : Opening) (Back : Meaning → Type 0) (view : KeeperView) (event : Event) : Type 0 where
  pub may : KeeperMay (own_history opening view.notes) event
  pub told : TellsRisen (told_count event) (last_faults view.least view.notes) view.faults
  pub follows : MarksFollowJournal (Happened event ∷ own_history opening view.notes)
  pub marked : MarksAreKept (Happened event ∷ own_history opening view.notes)
  pub marks : view.marks ≡ marks_of (Happened event ∷ own_history opening view.notes)
  pub held : view.held ≡ held_of (Happened event ∷ own_history opening view.notes)
  pub back : tells ≡ true → (meaning : Meaning) → Back meaning → ComesBack (Happened event ∷ own_history opening view.notes) view.unstored meaning
  pub images : tells ≡ true → Leaves (λ image. (meaning : Meaning) × Back meaning × IsImageOf meaning image) view.history.now
  pub unstored : view.unstored ≡ true → HasFailedSwitch (Happened event ∷ own_history opening view.notes)

pub view-drawn : (tells : Bool) (opening : Opening) (Back : Meaning → Type 0) (view : KeeperView) (event : Event) (place : ℕ) → AscendFrom 0 (view.state.entries ++ entry place event ∷ [])
    → EntriesStand tells opening view → OwesDraw tells opening Back view event → ViewStands tells opening Back (noted view event place)
view-drawn tells opening Back view event place next own owes = record {
  own = entries-noted tells opening view event place
      (record {
        may = owes.may;
        told = owes.told;
        follows = owes.follows;
        marked = owes.marked;
        leaves = λ told image is. let found = owes.images told image is in (found.0, found.2, (owes.back told found.0 found.1).durable.recovered);
      }) next own;
  marks = owes.marks;
  held = owes.held;
  back = owes.back;
  unstored = owes.unstored;
}

-- the keeper with its entry
pub stands-drawn : {D : Type 0} (disk : Ghosts D) (opening : Opening) (keeper new : Keeper D) (event : Event) (place : ℕ) → SameRest keeper new
    → view_of disk new ≡ noted (view_of disk keeper) event place → AscendFrom 0 new.seat.part.state.entries → EntriesStand disk.tells opening (view_of disk keeper)
    → OwesDraw disk.tells opening (comes_back disk keeper.meta) (view_of disk keeper) event → KeeperStands disk opening new
stands-drawn disk opening keeper new event place same is ascend own owes =
    subst (λ (meta : Meta _). ViewStands disk.tells opening (comes_back disk meta) (view_of disk new)) (sym same.meta)
    (subst (ViewStands disk.tells opening (comes_back disk keeper.meta)) (sym is)
    (view-drawn disk.tells opening (comes_back disk keeper.meta) (view_of disk keeper) event place
    (subst (AscendFrom 0) (ap (λ (v : KeeperView). v.state.entries) is) ascend) own owes))

-- what comes back by a history comes back behind an event that isn't committed
pub comes-as : (unstored : Bool) (event : Event) (h : List Happening) (meaning : Meaning) → SameWords event h → is_committed (Happened event ∷ h) event ≡ false
    → MayHaveEra (Happened event ∷ h) meaning.marks.era → ComesBack h unstored meaning → ComesBack (Happened event ∷ h) unstored meaning
comes-as unstored event h meaning same not era back = record {
  durable = record {
    recovered = recovered-again event h meaning.marks meaning.held same.keeps era back.durable.recovered;
    lasts = λ none. lasts-none event h meaning.marks same.keeps (back.durable.lasts (fails-before is_write event h not none));
    era = λ none. back.durable.era (fails-before is_switch event h not none) ∙ sym same.era;
    snapshot = λ none. back.durable.snapshot (fails-before changes_snapshot event h not none) ∙ sym same.keeps.held;
  };
  era = λ is. back.era is ∙ sym same.era;
}

pub comes-quiet : (unstored : Bool) (event : Event) (h : List Happening) (meaning : Meaning) → IsQuiet unstored event → ComesBack h unstored meaning → ComesBack (Happened event ∷ h) unstored meaning
comes-quiet unstored (Tried id block era) h meaning is back = comes-as unstored (Tried id block era) h meaning (quiet-words unstored (Tried id block era) h is) refl (inl (back.era is)) back
comes-quiet unstored (Kept id inside) h meaning is back = comes-as unstored (Kept id inside) h meaning (quiet-words unstored (Kept id inside) h is) refl (inl (back.era is)) back
comes-quiet unstored (ListEvent id since snap blocks) h meaning is back =
    comes-as unstored (ListEvent id since snap blocks) h meaning (quiet-words unstored (ListEvent id since snap blocks) h is) refl (inl (back.era is)) back
comes-quiet unstored (Status id used total era held) h meaning is back =
    comes-as unstored (Status id used total era held) h meaning (quiet-words unstored (Status id used total era held) h is) refl (inl (back.era is)) back
comes-quiet unstored (Refused id kind why) h meaning is back =
    comes-as unstored (Refused id kind why) h meaning (quiet-words unstored (Refused id kind why) h is) refl back.durable.recovered.era back
comes-quiet unstored event h meaning is back = absurd is

-- an era that stands in memory alone still does
unstored-quiet : (unstored : Bool) (event : Event) (h : List Happening) → IsQuiet unstored event → unstored ≡ true → HasFailedSwitch h → HasFailedSwitch (Happened event ∷ h)
unstored-quiet unstored (Tried id block era) h is on failed = absurd (false≢true (sym is ∙ on))
unstored-quiet unstored (Kept id inside) h is on failed = absurd (false≢true (sym is ∙ on))
unstored-quiet unstored (ListEvent id since snap blocks) h is on failed = absurd (false≢true (sym is ∙ on))
unstored-quiet unstored (Status id used total era held) h is on failed = absurd (false≢true (sym is ∙ on))
unstored-quiet unstored (Refused id kind why) h is on failed = switch-still-failed id kind why h failed
unstored-quiet unstored event h is on failed = absurd is

pub owes-quiet : (tells : Bool) (opening : Opening) (Back : Meaning → Type 0) (view : KeeperView) (event : Event) → IsQuiet view.unstored event → KeeperMay (own_history opening view.notes) event
    → TellsRisen (told_count event) (last_faults view.least view.notes) view.faults → (tells ≡ true → Leaves (λ image. (meaning : Meaning) × Back meaning × IsImageOf meaning image) view.history.now)
    → ViewStands tells opening Back view → OwesDraw tells opening Back view event
owes-quiet tells opening Back view event is may told images stands =
    let h = own_history opening view.notes in
    let same = quiet-words view.unstored event h is in
    record {
      may = may;
      told = told;
      follows = follows-same event h same stands.own.follows;
      marked = kept-same event h same.keeps stands.own.marked;
      marks = stands.marks ∙ sym same.marks;
      held = stands.held ∙ sym same.keeps.held;
      back = λ told meaning comes. comes-quiet view.unstored event h meaning is (stands.back told meaning comes);
      images = images;
      unstored = λ on. unstored-quiet view.unstored event h is on (stands.unstored on);
    }
