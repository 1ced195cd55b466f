-- The metadata of an opened disk stands, with what was read of it.
use Rattle.std.proofs.Common.{◌≡◌, ℕ, ◌+◌, ◌*◌, ◌<◌, true, List, length, Option, Result, Ok, Err, refl, sym, ap, ◌∙◌, subst, arith}
use Rattle.std.specs.Prelude.{IfOk}
use Rattle.era_base.specs.Calls.{SameDisk}
use Rattle.era_base.specs.CrashModel.{State, IsClean}
use Rattle.era_base.specs.declared.disk.Disk.{Ghosts}
use Rattle.era_layout.specs.Root.{RootFields, fields_of}
use Rattle.era_slots.specs.declared.slots.Slots.{Slots}
use Rattle.era_slots.specs.Calls.{StandFor, SameSlots}
use Rattle.era_slots.specs.Opening.{AreBeside, OpensWhole}
use Rattle.era_slots.specs.Slot.{other, commit_number, IsCommitNumber}
use Rattle.era_slots.specs.Standing.{Stands}
use Rattle.era_meta.specs.declared.metadata.Meta.{Meta}
use Rattle.era_meta.specs.declared.parts.Parts.{Parts}
use Rattle.era_meta.specs.declared.refusal.MetaRefusal.{MetaRefusal}
use Rattle.era_meta.specs.Held.{snapshot_root}
use Rattle.era_meta.specs.InMemory.{FitTogether, MetaStands}
use Rattle.era_meta.specs.Keeping.{IsLeft}
use Rattle.era_meta.specs.Meaning.{Meaning}
use Rattle.era_meta.specs.Openings.{IsLooked, IsReadOf, meta_of}
use Rattle.era_meta.specs.Parts.{AreReadOf, HasParts}
use Rattle.era_meta.specs.Stored.{HasBlocks}
use Rattle.era_meta.proofs.Ends.{at-fields}
use Rattle.era_meta.proofs.MarksPut.{room-in}
use Rattle.era_meta.proofs.Opened.{IsOpened, opened-keeps, opened-image}
use Rattle.era_meta.proofs.Tried.{newest-active}

-- what is known of an opened disk whose parts were read
pub record IsMade {D : Type 0} (disk : Ghosts D) (old new : Slots D) (active : ℕ) (content : List ℕ) (older : Option (List ℕ)) (parts : Parts) : Type 0 where
  pub stands : StandFor old (disk.history old.disk).now
  pub clean : IsClean (disk.history old.disk).now
  pub opens : OpensWhole (disk.history old.disk).now.seen old active content older old.number
  pub same : (disk.history new.disk).now ≡ (disk.history old.disk).now
  pub size : length (disk.history old.disk).now.seen ≡ disk.sectors old.disk * 512
  pub read : AreReadOf active (disk.history old.disk).now.seen (fields_of parts.root) parts

opened-of : {D : Type 0} (disk : Ghosts D) (old new : Slots D) (active : ℕ) (content : List ℕ) (older : Option (List ℕ)) (parts : Parts)
    → AreBeside old active content older old.number → SameSlots old new → HasParts (disk.sectors old.disk) parts → IsMade disk old new active content older parts
    → IsOpened active new.target new.number new.may_be_open (fields_of parts.root) (snapshot_root parts.snapshot) (disk.history old.disk).now
opened-of disk old new active content older parts beside same has made =
    let now = (disk.history old.disk).now in
    record {
      two = beside.slot;
      clean = made.clean;
      stands = at-fields (λ t n f. Stands t n f now) old.target new.target old.number new.number old.may_be_open new.may_be_open same.target same.number same.may_be_open made.stands;
      active_slot = made.opens.stands;
      goes_to = same.target ∙ beside.target;
      numbered = same.number ∙ made.opens.numbered;
      opened = λ flag. made.opens.may_be_open.0 (sym same.may_be_open ∙ flag);
      spelled = made.read.spelled;
      beside = made.read.beside;
      whole = record {
        valid = has.valid;
        whole = made.read.whole;
        snapshot = made.read.says.snapshot.held;
      };
      room = room-in (fields_of parts.root) (disk.sectors old.disk) now has.room made.size;
    }

parts-fit : {D : Type 0} (disk : Ghosts D) (old new : Slots D) (parts : Parts) → SameDisk disk old.disk new.disk → HasParts (disk.sectors old.disk) parts
    → FitTogether disk (meta_of new parts)
parts-fit disk old new parts device has = record {
  valid = has.valid;
  sectors = has.fit.marks.sectors;
  block_sectors = has.fit.marks.block_sectors;
  lists = has.fit.lists;
  total = has.fit.total;
  snapshot = has.fit.snapshot;
  room = subst (λ (n : ℕ). HasBlocks (fields_of parts.root) n) (sym device.size) has.room;
}

none-left : {D : Type 0} (slots : Slots D) (active : ℕ) (root : RootFields) (held : Option RootFields) (now : State) (left : Meaning)
    → IsOpened active slots.target slots.number slots.may_be_open root held now → slots.may_be_open ≡ true → ¬ IsLeft slots.target slots.number left now
none-left slots active root held now left opened flag is =
    let newest = opened.active_slot.newest (opened.opened flag) in
    let order : commit_number (other active) now.seen < commit_number active now.seen = newest.1 in
    let same : commit_number (other active) now.seen ≡ slots.number + 1 = ap (λ (slot : ℕ). commit_number slot now.seen) (sym opened.goes_to) ∙ is.numbered in
    let numbers = opened.numbered in
    omega arith

pub looked-of : {D : Type 0} (disk : Ghosts D) (old new : Slots D) (active : ℕ) (content : List ℕ) (older : Option (List ℕ)) (parts : Parts)
    → AreBeside old active content older old.number → SameSlots old new → SameDisk disk old.disk new.disk → HasParts (disk.sectors old.disk) parts
    → (disk.tells ≡ true → IsMade disk old new active content older parts) → IsLooked disk old.disk (meta_of new parts)
looked-of disk old new active content older parts beside same device has made = record {
  standing = record {
    fit = parts-fit disk old new parts device has;
    stands = λ told.
        let m = made told in
        let opened = opened-of disk old new active content older parts beside same has m in
        subst (λ (state : State). MetaStands (meta_of new parts) state) (sym m.same) (record {
          keeps = opened-keeps active new.target new.number new.may_be_open (fields_of parts.root) (snapshot_root parts.snapshot) (disk.history old.disk).now opened;
          says = m.read.says.marks;
          held = m.read.says.snapshot.marks;
        });
  };
  stored = refl;
  numbered = subst IsCommitNumber (sym same.number) beside.numbered;
  told = λ told.
      let m = made told in
      let now = (disk.history old.disk).now in
      let opened = opened-of disk old new active content older parts beside same has m in
      subst (λ (state : State). IsReadOf (meta_of new parts) now.seen state) (sym m.same) (record {
        clean = m.clean;
        root = m.read.newest;
        number = ap (λ (slot : ℕ). commit_number slot now.seen) (newest-active now.seen active beside.slot m.opens.stands) ∙ sym opened.numbered;
        stored = opened-image active new.target new.number new.may_be_open (fields_of parts.root) (snapshot_root parts.snapshot) now opened;
        none_left = λ flag left. none-left new active (fields_of parts.root) (snapshot_root parts.snapshot) now left opened flag;
      });
}

-- a look from another state that reads so
pub looked-as : {D : Type 0} (disk : Ghosts D) (mid old : D) (meta : Meta D) → (disk.tells ≡ true → (disk.history mid).now.seen ≡ (disk.history old).now.seen)
    → IsLooked disk mid meta → IsLooked disk old meta
looked-as disk mid old meta same looked = record {
  standing = looked.standing;
  stored = looked.stored;
  numbered = looked.numbered;
  told = λ told. subst (λ (seen : List ℕ). IsReadOf meta seen (disk.history meta.slots.disk).now) (same told) (looked.told told);
}

pub looked-map : {D : Type 0} (disk : Ghosts D) (mid old : D) (result : Result (Meta D) (MetaRefusal D))
    → ((meta : Meta D) → IsLooked disk mid meta → IsLooked disk old meta) → IfOk result (IsLooked disk mid) → IfOk result (IsLooked disk old)
looked-map disk mid old (Ok meta) more looked = more meta looked
looked-map disk mid old (Err refusal) more looked = tt
