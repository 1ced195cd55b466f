-- What digests, snapshots and lists did behind their beginning is what they did.
use Rattle.std.proofs.Common.{◌≡◌, ℕ, Bool, true, false, List, [], ◌∷◌, refl, sym, subst, inr}
use Rattle.era_base.specs.declared.disk.Disk.{Ghosts}
use Rattle.era_base.specs.declared.ids.CmdId.{CmdId}
use Rattle.era_gate.specs.Calls.{PassToken}
use Rattle.era_meta.specs.Digested.{HasMarks, StillHasMarks}
use Rattle.era_meta.specs.Digesting.{HasStep, IsDigest, after_digest}
use Rattle.era_meta.specs.Held.{snapshot_marks}
use Rattle.era_meta.specs.declared.metadata.Meta.{Meta}
use Rattle.era_meta.specs.declared.snapshot.Snapshot.{Snapshot}
use Rattle.era_model.specs.declared.event.Event.{Event}
use Rattle.era_model.specs.declared.reply.Answer.{Answer}
use Rattle.era_model.specs.declared.reply.Answer.TheVariants.{Blocks, Digest as DigestAnswer, Fault, Fine, Idle, Memory, Snap as SnapAnswer}
use Rattle.era_model.specs.Conditions.{ListsExactly, ListsSnapshot}
use Rattle.era_model.specs.Digest.{digested}
use Rattle.era_model.specs.Marks.{BlockMarks, blocks_of_marks, written_since}
use Rattle.era_keeper.specs.declared.keeper.Keeper.{Keeper}
use Rattle.era_keeper.specs.Answers.{CanList, ListDid, ListsSince}
use Rattle.era_keeper.specs.Calls.{Drew, DrewAt, SameMemory}
use Rattle.era_keeper.specs.InStoredEra.{DigestWent, ListWent, SnapWent, UnsnapWent}
use Rattle.era_keeper.specs.Results.{DigestDid}
use Rattle.era_keeper.specs.SnapshotResults.{SnapDid, UnsnapDid}
use Rattle.era_keeper.specs.Storing.{HasBegun, HasStoredEra}
use Rattle.era_keeper.proofs.Begun.{drew-begun}
use Rattle.era_keeper.proofs.Drawn.{drew-from, drew-one}
use Rattle.era_keeper.proofs.Stores.{over}

-- one draw over other metadata
pub drew-over : {D : Type 0} (old new : Keeper D) (meta : Meta D) (pass pass' : PassToken) (event : Event) (place : ℕ) → DrewAt event place (over old meta) new pass pass' → Drew (event ∷ []) old new pass pass'
drew-over old new meta pass pass' event place drew = drew-from old (over old meta) new pass pass' (event ∷ []) refl (drew-one (over old meta) new pass pass' event place drew)

-- a list by the same marks and the same snapshot
lists-from : {D : Type 0} (old mid : Keeper D) (since : ℕ) (snap : Bool) (runs : List (ℕ × ℕ)) → SameMemory old mid → ListsSince mid since snap runs → ListsSince old since snap runs
lists-from old mid since false runs same lists =
    subst (λ (m : BlockMarks). ListsExactly (blocks_of_marks m) (written_since m since) runs) same.marks lists
lists-from old mid since true runs same lists = subst (λ (s : Snapshot). ListsSnapshot (snapshot_marks s) since runs) same.snapshot lists

pub list-did : {D : Type 0} (disk : Ghosts D) (id : CmdId) (since : ℕ) (snap : Bool) (answer : Answer) (old mid new : Keeper D) (pass between pass' : PassToken) → CanList snap old
    → HasBegun disk old mid pass between → ListWent id since snap answer mid new between pass' → ListDid disk id since snap answer old new pass pass'
list-did disk id since snap (Blocks runs) old mid new pass between pass' can begun went = (
  can,
  record {
    first = subst (λ (m : Meta _). HasStoredEra disk old.meta m) (sym went.0) begun.stored;
    listed = lists-from old mid since snap runs begun.memory went.1;
    drew = drew-begun disk old mid new pass between pass' _ begun went.2;
  },
)
list-did disk id since snap Memory old mid new pass between pass' can begun went = (
  can,
  record {
    first = subst (λ (m : Meta _). HasStoredEra disk old.meta m) (sym went.0) begun.stored;
    drew = drew-begun disk old mid new pass between pass' _ begun went.1;
  },
)
list-did disk id since snap answer old mid new pass between pass' can begun went = absurd went

pub snap-did : {D : Type 0} (disk : Ghosts D) (id : CmdId) (answer : Answer) (old mid new : Keeper D) (pass between pass' : PassToken) → old.meta.snapshot.is_held ≡ false → HasBegun disk old mid pass between
    → SnapWent disk id answer mid new between pass' → SnapDid disk id answer old new pass pass'
snap-did disk id (SnapAnswer block) old mid new pass between pass' none begun went = record {
  none = none;
  two = went.0;
  between = mid.meta;
  first = begun.stored;
  stored = went.1;
  kept = went.2;
  drew = drew-begun disk old mid new pass between pass' _ begun went.3;
}
snap-did disk id (Fault device count) old mid new pass between pass' none begun went =
    (none, inr (record { between = mid.meta; first = begun.stored; failed = went.0; kept = went.1; drew = drew-begun disk old mid new pass between pass' _ begun went.2 }))
snap-did disk id answer old mid new pass between pass' none begun went = absurd went

pub unsnap-did : {D : Type 0} (disk : Ghosts D) (id : CmdId) (answer : Answer) (old mid new : Keeper D) (pass between pass' : PassToken) → old.meta.snapshot.is_held ≡ true → HasBegun disk old mid pass between
    → UnsnapWent disk id answer mid new between pass' → UnsnapDid disk id answer old new pass pass'
unsnap-did disk id Fine old mid new pass between pass' held begun went = record {
  held = held;
  between = mid.meta;
  first = begun.stored;
  stored = went.0;
  kept = went.1;
  drew = drew-begun disk old mid new pass between pass' _ begun went.2;
}
unsnap-did disk id (Fault device count) old mid new pass between pass' held begun went =
    (held, inr (record { between = mid.meta; first = begun.stored; failed = went.0; kept = went.1; drew = drew-begun disk old mid new pass between pass' _ begun went.2 }))
unsnap-did disk id answer old mid new pass between pass' held begun went = absurd went

pub digest-did : {D : Type 0} (disk : Ghosts D) (id : CmdId) (answer : Answer) (old mid new : Keeper D) (pass between pass' : PassToken) → HasBegun disk old mid pass between
    → DigestWent disk id answer mid new between pass' → DigestDid disk id answer old new pass pass'
digest-did disk id (DigestAnswer era page) old mid new pass between pass' begun went = record {
  step = subst (λ (m : BlockMarks). IsDigest m era page) begun.memory.marks went.0;
  between = mid.meta;
  first = begun.stored;
  stored = subst (λ (m : BlockMarks). HasMarks disk mid.meta (digested m page) new.meta) begun.memory.marks went.1;
  kept = went.2;
  drew = drew-begun disk old mid new pass between pass' _ begun went.3;
}
digest-did disk id Idle old mid new pass between pass' begun went = record {
  none = subst (λ (m : BlockMarks). m.archive ≡ []) begun.memory.marks went.0;
  first = subst (λ (m : Meta _). HasStoredEra disk old.meta m) (sym went.1) begun.stored;
  drew = drew-begun disk old mid new pass between pass' _ begun went.2;
}
digest-did disk id (Fault device count) old mid new pass between pass' begun went =
    let some : HasStep old.meta.marks = subst HasStep begun.memory.marks went.0 in (
      λ told. some,
      inr (record {
        some = some;
        between = mid.meta;
        first = begun.stored;
        failed = subst (λ (m : BlockMarks). StillHasMarks disk mid.meta (after_digest m) new.meta) begun.memory.marks went.1;
        kept = went.2;
        drew = drew-begun disk old mid new pass between pass' _ begun went.3;
      }),
    )
digest-did disk id answer old mid new pass between pass' begun went = absurd went
