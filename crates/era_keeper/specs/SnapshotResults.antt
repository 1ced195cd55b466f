-- What the taking and the dropping of a snapshot at the keeper came to.
use Rattle.std.specs.Prelude.{◌≡◌, ◌⊎◌, ℕ, true, false, [], ◌∷◌}
use Rattle.era_base.specs.declared.disk.Disk.{Ghosts}
use Rattle.era_base.specs.declared.ids.CmdId.{CmdId}
use Rattle.era_gate.specs.Calls.{PassToken}
use Rattle.era_keeper.specs.declared.keeper.Keeper.{Keeper}
use Rattle.era_keeper.specs.Calls.{Drew}
use Rattle.era_keeper.specs.Storing.{HasStoredEra, IsRefusedFirst}
use Rattle.era_meta.specs.declared.metadata.Meta.{Meta}
use Rattle.era_meta.specs.SnapshotCalls.{CommitsSnapshot, FailsToCommitSnapshot, KeepsMarks}
use Rattle.era_model.specs.declared.event.Event.TheVariants.{Snap, Dropped, Refused}
use Rattle.era_model.specs.declared.event.Kind.TheVariants.{TakeSnap as TakeSnapKind, DropSnap as DropSnapKind}
use Rattle.era_model.specs.declared.event.Why.TheVariants.{Held as HeldWhy, MetaFault, NoSnap as NoSnapWhy}
use Rattle.era_model.specs.declared.reply.Answer.{Answer}
use Rattle.era_model.specs.declared.reply.Answer.TheVariants.{Fault, Fine, Held, NoSnap, Snap as SnapAnswer}

-- A snapshot is held already, at metadata block 2: nothing was done.
pub record IsHeldAlready {D : Type 0} (id : CmdId) (block : ℕ) (old new : Keeper D) (pass pass' : PassToken) : Type 0 where
  pub held : old.meta.snapshot.is_held ≡ true
  pub two : block ≡ 2
  pub same : new.meta ≡ old.meta
  pub drew : Drew (Refused id TakeSnapKind (HeldWhy block) ∷ []) old new pass pass'

-- A snapshot of the marks was taken, at metadata block 2, by one commit, and the marks are as before.
pub record HasTaken {D : Type 0} (disk : Ghosts D) (id : CmdId) (block : ℕ) (old new : Keeper D) (pass pass' : PassToken) : Type 0 where
  pub none : old.meta.snapshot.is_held ≡ false
  pub two : block ≡ 2
  pub between : Meta D
  pub first : HasStoredEra disk old.meta between
  pub stored : CommitsSnapshot disk between true new.meta
  pub kept : KeepsMarks disk between new.meta
  pub drew : Drew (Snap id block ∷ []) old new pass pass'

-- It couldn't be taken, and the marks are as before.
pub record FailsToTake {D : Type 0} (disk : Ghosts D) (id : CmdId) (count : ℕ) (old new : Keeper D) (pass pass' : PassToken) : Type 0 where
  pub between : Meta D
  pub first : HasStoredEra disk old.meta between
  pub failed : FailsToCommitSnapshot disk between true new.meta
  pub kept : KeepsMarks disk between new.meta
  pub drew : Drew (Refused id TakeSnapKind (MetaFault count) ∷ []) old new pass pass'

-- What a taking of a snapshot came to, by its answer.
abbrev pub SnapDid : {D : Type 0} → Ghosts D → CmdId → Answer → Keeper D → Keeper D → PassToken → PassToken → Type 0
SnapDid disk id (Held block) old new pass pass' = IsHeldAlready id block old new pass pass'
SnapDid disk id (SnapAnswer block) old new pass pass' = HasTaken disk id block old new pass pass'
SnapDid disk id (Fault device count) old new pass pass' =
    (old.meta.snapshot.is_held ≡ false)
    × (IsRefusedFirst disk id TakeSnapKind count old new pass pass' ⊎ FailsToTake disk id count old new pass pass')
SnapDid disk id answer old new pass pass' = ⊥

-- No snapshot is held: nothing was done.
pub record HoldsNone {D : Type 0} (id : CmdId) (old new : Keeper D) (pass pass' : PassToken) : Type 0 where
  pub none : old.meta.snapshot.is_held ≡ false
  pub same : new.meta ≡ old.meta
  pub drew : Drew (Refused id DropSnapKind NoSnapWhy ∷ []) old new pass pass'

-- The snapshot was dropped, by one commit, and the marks are as before.
pub record HasDropped {D : Type 0} (disk : Ghosts D) (id : CmdId) (old new : Keeper D) (pass pass' : PassToken) : Type 0 where
  pub held : old.meta.snapshot.is_held ≡ true
  pub between : Meta D
  pub first : HasStoredEra disk old.meta between
  pub stored : CommitsSnapshot disk between false new.meta
  pub kept : KeepsMarks disk between new.meta
  pub drew : Drew (Dropped id ∷ []) old new pass pass'

-- It couldn't be dropped, and the marks are as before.
pub record FailsToDrop {D : Type 0} (disk : Ghosts D) (id : CmdId) (count : ℕ) (old new : Keeper D) (pass pass' : PassToken) : Type 0 where
  pub between : Meta D
  pub first : HasStoredEra disk old.meta between
  pub failed : FailsToCommitSnapshot disk between false new.meta
  pub kept : KeepsMarks disk between new.meta
  pub drew : Drew (Refused id DropSnapKind (MetaFault count) ∷ []) old new pass pass'

-- What a dropping of the snapshot came to, by its answer.
abbrev pub UnsnapDid : {D : Type 0} → Ghosts D → CmdId → Answer → Keeper D → Keeper D → PassToken → PassToken → Type 0
UnsnapDid disk id NoSnap old new pass pass' = HoldsNone id old new pass pass'
UnsnapDid disk id Fine old new pass pass' = HasDropped disk id old new pass pass'
UnsnapDid disk id (Fault device count) old new pass pass' =
    (old.meta.snapshot.is_held ≡ true)
    × (IsRefusedFirst disk id DropSnapKind count old new pass pass' ⊎ FailsToDrop disk id count old new pass pass')
UnsnapDid disk id answer old new pass pass' = ⊥
