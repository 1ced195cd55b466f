-- What the draw behind a commit owes: that of its event where it answered Ok, and that of the refusal where it failed.
use Rattle.std.proofs.Common.{◌≡◌, ◌⊎◌, ℕ, Bool, true, false, List, [], ◌∷◌, refl, sym, ◌∙◌, subst, inl, inr}
use Rattle.std.proofs.lemmas.Bool.{false≢true}
use Rattle.era_base.specs.Calls.{Now}
use Rattle.era_base.specs.Faults.{Rose}
use Rattle.era_base.specs.declared.disk.Disk.{Ghosts}
use Rattle.era_base.specs.declared.ids.CmdId.{CmdId}
use Rattle.era_meta.specs.declared.metadata.Meta.{Meta}
use Rattle.era_meta.specs.Held.{snapshot_marks}
use Rattle.era_meta.specs.InMemory.{LeavesMeanings}
use Rattle.era_meta.specs.Meaning.{Meaning}
use Rattle.era_model.specs.declared.event.Event.{Event}
use Rattle.era_model.specs.declared.event.Event.TheVariants.{Refused}
use Rattle.era_model.specs.declared.event.Kind.{Kind}
use Rattle.era_model.specs.declared.event.Why.TheVariants.{MetaFault}
use Rattle.era_model.specs.declared.history.Happening.{Happening}
use Rattle.era_model.specs.declared.history.Happening.TheVariants.{Happened}
use Rattle.era_model.specs.declared.opening.Opening.{Opening}
use Rattle.era_model.specs.History.{at_opening, blocks_at, blocks_now}
use Rattle.era_model.specs.Legal.{MayFailAtMetadata}
use Rattle.era_model.specs.Marking.{held_of, marks_of}
use Rattle.era_model.specs.Marks.{BlockMarks, blocks_of_marks}
use Rattle.era_model.specs.Promises.{MarksFollowJournal}
use Rattle.era_notes.specs.Notes.{Note, own_history, told_count, TellsRisen}
use Rattle.era_keeper.specs.declared.keeper.Keeper.{Keeper}
use Rattle.era_keeper.specs.Keepers.{KeeperStands, comes_back, view_of}
use Rattle.era_keeper.specs.OwnEntries.{KeeperMay, MarksAreKept}
use Rattle.era_keeper.specs.Recovery.{ComesBack}
use Rattle.era_keeper.specs.Steps.{last_count_of}
use Rattle.era_keeper.proofs.Backs.{meant}
use Rattle.era_keeper.proofs.Follows.{follows-same, kept-same}
use Rattle.era_keeper.proofs.Quiet.{OwesDraw, comes-quiet}
use Rattle.era_keeper.proofs.Stores.{comes-now, over, own}
use Rattle.era_keeper.proofs.Words.{quiet-words}

-- what the opening says, by own entries
pub at-own : {T : Type 0} (none : T) (of : Opening → T) (opening : Opening) (notes : List Note) → at_opening none of (own_history opening notes) ≡ of opening
at-own none of opening [] = refl
at-own none of opening (note ∷ earlier) = at-own none of opening earlier

-- the blocks of marks that follow own entries are those of the origin
pub blocks-own : (opening : Opening) (notes : List Note) (m : BlockMarks) → m.sectors ≡ at_opening 0 (λ o. o.geometry.sectors) (own_history opening notes)
    → m.block_sectors ≡ at_opening 0 (λ o. o.geometry.block_sectors) (own_history opening notes) → blocks_of_marks m ≡ blocks_now (own_history opening notes)
blocks-own opening notes m sectors block_sectors =
    rw (sectors ∙ at-own 0 (λ o. o.geometry.sectors) opening notes, block_sectors ∙ at-own 0 (λ o. o.geometry.block_sectors) opening notes) (sym (at-own 0 blocks_at opening notes))

pub owes-stored : {D : Type 0} (disk : Ghosts D) (opening : Opening) (keeper : Keeper D) (new : Meta D) (event : Event) → KeeperMay (own disk opening keeper) event
    → TellsRisen (told_count event) (last_count_of disk keeper) (disk.faults new.slots.disk)
    → MarksFollowJournal (Happened event ∷ own disk opening keeper) → MarksAreKept (Happened event ∷ own disk opening keeper)
    → new.marks ≡ marks_of (Happened event ∷ own disk opening keeper) → snapshot_marks new.snapshot ≡ held_of (Happened event ∷ own disk opening keeper) → new.unstored ≡ false
    → (disk.tells ≡ true → (meaning : Meaning) → comes_back disk new meaning → meaning ≡ meant (marks_of (Happened event ∷ own disk opening keeper)) (held_of (Happened event ∷ own disk opening keeper)))
    → Now disk (LeavesMeanings new) new.slots.disk → OwesDraw disk.tells opening (comes_back disk new) (view_of disk (over keeper new)) event
owes-stored disk opening keeper new event may told follows marked marks held stored alone images =
    let later : List Happening = Happened event ∷ own disk opening keeper in
    record {
      may = may;
      told = told;
      follows = follows;
      marked = marked;
      marks = marks;
      held = held;
      back = λ told meaning back. subst (ComesBack later new.unstored) (sym (alone told meaning back)) (comes-now later new.unstored follows);
      images = images;
      unstored = λ on. absurd (false≢true (sym stored ∙ on));
    }

pub owes-failed : {D : Type 0} (disk : Ghosts D) (opening : Opening) (keeper : Keeper D) (new : Meta D) (id : CmdId) (kind : Kind) (count : ℕ) (next : Meaning)
    → MayFailAtMetadata (own disk opening keeper) id kind count → count ≡ disk.faults new.slots.disk → Rose (last_count_of disk keeper) count
    → new.marks ≡ keeper.meta.marks → snapshot_marks new.snapshot ≡ snapshot_marks keeper.meta.snapshot → keeper.meta.unstored ≡ false → new.unstored ≡ false
    → (disk.tells ≡ true → (meaning : Meaning) → comes_back disk new meaning → comes_back disk keeper.meta meaning ⊎ (meaning ≡ next))
    → ComesBack (Happened (Refused id kind (MetaFault count)) ∷ own disk opening keeper) false next
    → Now disk (LeavesMeanings new) new.slots.disk → KeeperStands disk opening keeper
    → OwesDraw disk.tells opening (comes_back disk new) (view_of disk (over keeper new)) (Refused id kind (MetaFault count))
owes-failed disk opening keeper new id kind count next may present rose marks held stored_before stored either comes images stands =
    let event : Event = Refused id kind (MetaFault count) in
    let h = own disk opening keeper in
    let same = quiet-words false event h tt in
    record {
      may = may;
      told = (present, rose);
      follows = follows-same event h same stands.own.follows;
      marked = kept-same event h same.keeps stands.own.marked;
      marks = marks ∙ stands.marks;
      held = held ∙ stands.held;
      back = λ told meaning back. subst (λ (flag : Bool). ComesBack (Happened event ∷ h) flag meaning) (sym stored) (elim (either told meaning back) [
        | inl old ↦ comes-quiet false event h meaning tt (subst (λ (flag : Bool). ComesBack h flag meaning) stored_before (stands.back told meaning old))
        | inr is ↦ subst (ComesBack (Happened event ∷ h) false) (sym is) comes
      ]);
      images = images;
      unstored = λ on. absurd (false≢true (sym stored ∙ on));
    }
