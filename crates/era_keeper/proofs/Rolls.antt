-- A keeper stands where the era moves: the switch is drawn, and then stored, or not.
use Rattle.std.proofs.Common.{◌≡◌, ℕ, ◌+◌, ◌≤◌, ◌/◌, Bool, true, false, List, [], ◌∷◌, ◌++◌, refl, sym, ap, ◌∙◌, subst, inl, inr}
use Rattle.std.proofs.lemmas.Bool.{false≢true, or_left}
use Rattle.era_base.specs.Calls.{EachMoment, Now}
use Rattle.era_base.specs.Faults.{Rose}
use Rattle.era_base.specs.declared.disk.Disk.{Ghosts}
use Rattle.era_base.specs.declared.ids.CmdId.{CmdId}
use Rattle.era_gate.specs.Places.{AscendFrom}
use Rattle.era_gate.specs.StateAfter.{entry}
use Rattle.era_meta.specs.declared.metadata.Meta.{Meta}
use Rattle.era_meta.specs.Held.{snapshot_marks}
use Rattle.era_meta.specs.InMemory.{LeavesMeanings, MetaStores, meaning_in}
use Rattle.era_meta.specs.Meaning.{Meaning}
use Rattle.era_meta.specs.MetaCalls.{CommitsMarks, FailsToCommitMarks, IsStanding, KeepsSnapshot}
use Rattle.era_meta.specs.StoredMarks.{with_marks}
use Rattle.era_model.specs.declared.event.Event.{Event}
use Rattle.era_model.specs.declared.event.Event.TheVariants.{Go, Done, Cut, Settle, Roll, Refused}
use Rattle.era_model.specs.declared.event.Kind.TheVariants.{Checkpoint as CheckpointKind}
use Rattle.era_model.specs.declared.event.Why.TheVariants.{MetaFault}
use Rattle.era_model.specs.declared.history.Happening.{Happening}
use Rattle.era_model.specs.declared.history.Happening.TheVariants.{Happened}
use Rattle.era_model.specs.declared.opening.Opening.{Opening}
use Rattle.era_model.specs.History.{era_of, in_flight}
use Rattle.era_model.specs.Marking.{held_of, marks_of}
use Rattle.era_model.specs.MarkLaws.{SwitchKeepsMarks}
use Rattle.era_model.specs.Marks.{BlockMarks, rolled}
use Rattle.era_model.specs.Promises.{MarksFollowJournal}
use Rattle.era_model.specs.Recovered.{MayHaveEra, changes_snapshot, is_write}
use Rattle.era_notes.specs.Notes.{Note, own_history}
use Rattle.era_keeper.specs.declared.keeper.Keeper.{Keeper}
use Rattle.era_keeper.specs.Keepers.{EntriesStand, KeeperStands, KeeperView, ViewStands, comes_back, noted, view_of}
use Rattle.era_keeper.specs.OwnEntries.{AreKeepersLegal, KeeperMay}
use Rattle.era_keeper.specs.Recovery.{ComesBack}
use Rattle.era_keeper.proofs.Backs.{Recovers, back-still, back-stored, meant, now-recovered, went-recovered}
use Rattle.era_keeper.proofs.Counts.{ascends-since}
use Rattle.era_keeper.proofs.Fails.{same-itself, switch-before, switch-failed}
use Rattle.era_keeper.proofs.Follows.{durable-now, follows-same, follows-switch, kept-same}
use Rattle.era_keeper.proofs.Quiet.{OwesDraw, comes-quiet}
use Rattle.era_keeper.proofs.Stores.{comes-now, own, stored-beside}
use Rattle.era_keeper.proofs.Views.{called, entries-called, entries-noted}
use Rattle.era_keeper.proofs.Words.{lasts-none, quiet-words, recovered-again, switch-words}

-- no write is in flight
none-step : (h : List Happening) (event : Event) → KeeperMay h event → in_flight h ≡ [] → in_flight (Happened event ∷ h) ≡ []
none-step h (Go id block era first bytes) may none = absurd may
none-step h (Done id) may none = absurd may
none-step h (Cut id n) may none = absurd may
none-step h (Settle by cut bytes) may none = absurd may
none-step h event may none = none

pub none-flying : (opening : Opening) (notes : List Note) → AreKeepersLegal opening notes → in_flight (own_history opening notes) ≡ []
none-flying opening [] legal = refl
none-flying opening (note ∷ earlier) legal = none-step (own_history opening earlier) note.entry.event legal.0 (none-flying opening earlier legal.1)

-- a switch that is drawn and stored, or not
pub record RollWent {D : Type 0} (disk : Ghosts D) (meta new : Meta D) : Type 0 where
  pub moments : EachMoment disk (MetaStores meta (rolled meta.marks)) meta.slots.disk new.slots.disk
  pub marks : new.marks ≡ rolled meta.marks
  pub same : KeepsSnapshot disk meta new
  pub later : disk.faults meta.slots.disk ≤ disk.faults new.slots.disk

-- what is known where a switch is drawn
pub record IsSwitch {D : Type 0} (disk : Ghosts D) (keeper : Keeper D) (era : ℕ) : Type 0 where
  pub standing : IsStanding disk keeper.meta
  pub stored : keeper.meta.unstored ≡ false
  pub next : era ≡ keeper.meta.marks.era + 1
  pub keeps : SwitchKeepsMarks keeper.meta.marks
  pub images : Now disk (LeavesMeanings keeper.meta) keeper.meta.slots.disk

module _ {D : Type 0} (disk : Ghosts D) (opening : Opening) (keeper : Keeper D) (id : CmdId) (era place : ℕ) (is : IsSwitch disk keeper era) (stands : KeeperStands disk opening keeper) where
  abbrev h : List Happening
  h = own disk opening keeper

  abbrev h1 : List Happening
  h1 = Happened (Roll id era) ∷ h

  abbrev view : KeeperView
  view = view_of disk keeper

  abbrev view1 : KeeperView
  view1 = noted view (Roll id era) place

  marks : keeper.meta.marks ≡ marks_of h
  marks = stands.marks

  next : era ≡ era_of h + 1
  next = is.next ∙ ap (λ (m : BlockMarks). m.era + 1) marks ∙ ap (λ (n : ℕ). n + 1) stands.own.follows.era

  pub follows1 : MarksFollowJournal h1
  follows1 = follows-switch h id era next (subst SwitchKeepsMarks marks is.keeps) stands.own.follows

  -- what came back may be recovered behind the switch
  back1 : disk.tells ≡ true → (meaning : Meaning) → comes_back disk keeper.meta meaning → Recovers h1 meaning
  back1 told meaning comes =
      let back = stands.back told meaning comes in
      let before : MayHaveEra h1 meaning.marks.era = inr (ap (λ (n : ℕ). n + 1) (back.era is.stored) ∙ sym next, refl) in
      recovered-again (Roll id era) h meaning.marks meaning.held (switch-words h id era) before back.durable.recovered

  own1 : AscendFrom 0 (view.state.entries ++ entry place (Roll id era) ∷ []) → EntriesStand disk.tells opening view1
  own1 ascend = entries-noted disk.tells opening view (Roll id era) place
      (record {
        may = record { next = next; quiet = none-flying opening view.notes stands.own.legal };
        told = tt;
        follows = follows1;
        marked = kept-same (Roll id era) h (switch-words h id era) stands.own.marked;
        leaves = λ told. now-recovered keeper.meta h1 (disk.history keeper.meta.slots.disk).now (back1 told) (is.images told);
      }) ascend stands.own

  module _ (new : Meta D) (went : RollWent disk keeper.meta new) (ascend : AscendFrom 0 (view.state.entries ++ entry place (Roll id era) ∷ [])) where
    abbrev pub view2 : KeeperView
    view2 = called view1 (disk.history new.slots.disk) (disk.faults new.slots.disk) new.marks (snapshot_marks new.snapshot) new.unstored (disk.sectors new.slots.disk / 8)

    -- the new meaning is that of the longer history
    stored-now : disk.tells ≡ true → with_marks (meaning_in (disk.history keeper.meta.slots.disk).now keeper.meta) (rolled keeper.meta.marks) ≡ meant (marks_of h1) (held_of h1)
    stored-now told = stored-beside disk opening keeper (rolled keeper.meta.marks) is.standing stands told ∙ ap (λ (m : BlockMarks). meant (rolled m) (held_of h)) marks

    pub own2 : EntriesStand disk.tells opening view2
    own2 = entries-called disk.tells opening view1 (disk.history new.slots.disk) (disk.faults new.slots.disk) new.marks (snapshot_marks new.snapshot) new.unstored (disk.sectors new.slots.disk / 8)
        (ap (λ (n : ℕ). n / 8) went.same.device.size) went.later
        (λ told. went-recovered keeper.meta (λ before. with_marks (meaning_in before keeper.meta) (rolled keeper.meta.marks)) h1 (disk.history keeper.meta.slots.disk) (disk.history new.slots.disk)
        (back1 told) (subst (Recovers h1) (sym (stored-now told)) (durable-now h1 follows1).recovered) (went.moments told))
        (own1 ascend)

    marks2 : new.marks ≡ marks_of h1
    marks2 = went.marks ∙ ap rolled marks

    held2 : snapshot_marks new.snapshot ≡ held_of h1
    held2 = ap snapshot_marks went.same.snapshot ∙ stands.held

    -- it is stored
    pub stands-rolled : CommitsMarks disk keeper.meta (rolled keeper.meta.marks) new → new.unstored ≡ false → ViewStands disk.tells opening (comes_back disk new) view2
    stands-rolled commits stored = record {
      own = own2;
      marks = marks2;
      held = held2;
      back = λ told meaning comes.
          let same = back-stored keeper.meta new (rolled keeper.meta.marks) (disk.history keeper.meta.slots.disk).now (disk.history new.slots.disk).now meaning (commits.stored told) comes ∙ stored-now told in
          subst (ComesBack h1 new.unstored) (sym same) (comes-now h1 new.unstored follows1);
      unstored = λ on. absurd (false≢true (sym stored ∙ on));
    }

    -- it isn't: what came back before comes back behind the refusal
    back2 : (count : ℕ) (meaning : Meaning) → disk.tells ≡ true → comes_back disk keeper.meta meaning → ComesBack (Happened (Refused id CheckpointKind (MetaFault count)) ∷ h1) true meaning
    back2 count meaning told comes =
        let back = stands.back told meaning comes in
        let refused : Event = Refused id CheckpointKind (MetaFault count) in
        let keeps = (quiet-words true refused h1 tt).keeps in
        let recovered = back1 told meaning comes in
        record {
          durable = record {
            recovered = recovered-again refused h1 meaning.marks meaning.held keeps recovered.era recovered;
            lasts = λ none. lasts-none refused h1 meaning.marks keeps (lasts-none (Roll id era) h meaning.marks (switch-words h id era) (back.durable.lasts (switch-before is_write id era count h refl none)));
            era = λ none. absurd (false≢true (sym none));
            snapshot = λ none. back.durable.snapshot (switch-before changes_snapshot id era count h refl none);
          };
          era = λ never. absurd (false≢true (sym never));
        }

    pub owes-unrolled : (count : ℕ) → FailsToCommitMarks disk keeper.meta (rolled keeper.meta.marks) new → new.unstored ≡ true → count ≡ disk.faults new.slots.disk → Rose (disk.faults keeper.meta.slots.disk) count
        → Now disk (LeavesMeanings new) new.slots.disk → OwesDraw disk.tells opening (comes_back disk new) view2 (Refused id CheckpointKind (MetaFault count))
    owes-unrolled count fails unstored present rose images =
        let refused : Event = Refused id CheckpointKind (MetaFault count) in
        let first = own1 ascend in
        record {
          may = record {
            rose = ascends-since opening view1.notes view1.least view1.faults count first.legal first.counts rose;
            cause = λ none. absurd (false≢true (sym none ∙ or_left _ _ (same-itself id)));
          };
          told = (present, rose);
          follows = follows-same refused h1 (quiet-words true refused h1 tt) follows1;
          marked = kept-same refused h1 (quiet-words true refused h1 tt).keeps own2.marked;
          marks = marks2;
          held = held2;
          back = λ told meaning comes. subst (λ (flag : Bool). ComesBack (Happened refused ∷ h1) flag meaning) (sym unstored)
              (elim (back-still keeper.meta new (rolled keeper.meta.marks) (disk.history keeper.meta.slots.disk).now (disk.history new.slots.disk).now meaning (fails.still told) comes) [
                | inl old ↦ back2 count meaning told old
                | inr same ↦ comes-quiet true refused h1 meaning tt (subst (ComesBack h1 true) (sym (same ∙ stored-now told)) (comes-now h1 true follows1))
              ]);
          images = images;
          unstored = λ on. switch-failed id era count h;
        }
