-- A keeper stands as it begins.
use Rattle.std.proofs.Common.{◌≡◌, Bool, true, false, [], ◌∷◌, arith, refl, sym, ap, ◌∙◌, subst}
use Rattle.std.proofs.lemmas.Bool.{false≢true}
use Rattle.era_base.specs.Calls.{Now}
use Rattle.era_base.specs.CrashModel.{clock, state_at}
use Rattle.era_base.specs.declared.disk.Disk.{Ghosts}
use Rattle.era_base.proofs.CrashImages.{state-now}
use Rattle.era_meta.specs.InMemory.{LeavesMeanings}
use Rattle.era_meta.specs.Meaning.{Meaning}
use Rattle.era_model.specs.declared.history.Happening.TheVariants.{Opened}
use Rattle.era_model.specs.declared.opening.Opening.{Opening}
use Rattle.era_model.specs.Legal.{IsOpening}
use Rattle.era_notes.specs.Notes.{notes_of, first_device}
use Rattle.era_notes.specs.Rooms.{entries_in}
use Rattle.era_keeper.specs.declared.keeper.Keeper.{Keeper}
use Rattle.era_keeper.specs.Keepers.{EntriesStand, IsOpenedOver, KeeperStands, KeeperView, view_of}
use Rattle.era_keeper.specs.Recovery.{ComesBack, LeavesRecovered}
use Rattle.era_keeper.proofs.Backs.{now-recovered}
use Rattle.era_keeper.proofs.Follows.{follows-opening}
use Rattle.era_keeper.proofs.Stores.{comes-now}

-- no entry was drawn, and the present images may be recovered by the opening
new-entries : (tells : Bool) (opening : Opening) (view : KeeperView) → IsOpening opening → view.total ≡ opening.total → view.notes ≡ [] → view.begun ≡ clock view.history → view.least ≡ view.faults
    → view.state.entries ≡ [] → view.entries ≡ [] → (tells ≡ true → LeavesRecovered (Opened opening ∷ []) view.history.now) → EntriesStand tells opening view
new-entries tells opening view opens total none begun least undrawn empty leaves = record {
  opens = opens;
  total = total;
  legal = rw none tt;
  follows = rw none (follows-opening opening opens);
  marked = rw none (λ block era marked. absurd (false≢true marked));
  through = rw (none, begun) (λ told. (
    omega arith,
    λ moment begins ends.
        let present : clock view.history ≡ moment = omega (arith, begins, ends) in
        subst (λ m. LeavesRecovered (Opened opening ∷ []) (state_at view.history m)) present
        (subst (LeavesRecovered (Opened opening ∷ [])) (sym (state-now view.history)) (leaves told)),
  ));
  counts = rw (none, least) (omega arith);
  entries = rw (none, undrawn) refl;
  kept = empty ∙ sym undrawn;
  places = rw undrawn tt;
}

pub stands-start : {D : Type 0} (disk : Ghosts D) (opening : Opening) (keeper : Keeper D) → IsOpenedOver disk opening keeper.meta → notes_of disk keeper.notes ≡ []
    → first_device keeper.notes ≡ keeper.meta.slots.disk → entries_in keeper.entries ≡ [] → keeper.seat.part.state.entries ≡ [] → keeper.meta.unstored ≡ false
    → Now disk (LeavesMeanings keeper.meta) keeper.meta.slots.disk → KeeperStands disk opening keeper
stands-start disk opening keeper opened none began empty undrawn stored images =
    let follows = follows-opening opening opened.opens in
    let comes = comes-now (Opened opening ∷ []) keeper.meta.unstored follows in
    let alone : disk.tells ≡ true → (meaning : Meaning) → _ → ComesBack (Opened opening ∷ []) keeper.meta.unstored meaning
    = λ told meaning back. subst (ComesBack (Opened opening ∷ []) keeper.meta.unstored) (sym (opened.alone told meaning back)) comes in
    record {
      own = new-entries disk.tells opening (view_of disk keeper) opened.opens (sym opened.total) none (ap (λ d. clock (disk.history d)) began) (ap disk.faults began) undrawn empty
          (λ told. now-recovered keeper.meta (Opened opening ∷ []) (disk.history keeper.meta.slots.disk).now (λ meaning back. (alone told meaning back).durable.recovered) (images told));
      marks = rw none (sym opened.marks);
      held = rw none (sym opened.held);
      back = rw none alone;
      unstored = λ on. absurd (false≢true (sym stored ∙ on));
    }
