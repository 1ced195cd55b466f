-- What a call did first: an era that a failed checkpoint left unstored is stored, and where that fails nothing else is done.
use Rattle.std.specs.Prelude.{◌≡◌, ℕ, Bool, true, false, [], ◌∷◌, Result, Ok, Err}
use Rattle.era_base.specs.declared.disk.Disk.{Ghosts}
use Rattle.era_base.specs.declared.ids.CmdId.{CmdId}
use Rattle.era_gate.specs.Calls.{PassToken}
use Rattle.era_keeper.specs.declared.keeper.Keeper.{Keeper}
use Rattle.era_keeper.specs.Calls.{Drew, SameMemory}
use Rattle.era_keeper.specs.Keepers.{FitsAfter, KeeperFits}
use Rattle.era_meta.specs.declared.metadata.Meta.{Meta}
use Rattle.era_meta.specs.Digested.{HasMarks}
use Rattle.era_meta.specs.MetaCalls.{FailsToCommitMarks, IsInMemory, KeepsSnapshot}
use Rattle.era_model.specs.declared.event.Event.TheVariants.{Refused}
use Rattle.era_model.specs.declared.event.Kind.{Kind}
use Rattle.era_model.specs.declared.event.Why.TheVariants.{MetaFault}

-- Marks of an unstored era are stored, by one commit; where the era was stored, nothing was done.
abbrev pub StoresEra : {D : Type 0} → Ghosts D → Bool → Meta D → Meta D → Type 0
StoresEra disk false old new = new ≡ old
StoresEra disk true old new = HasMarks disk old old.marks new × KeepsSnapshot disk old new

-- They aren't stored, and those in memory are as before.
abbrev pub FailsToStoreEra : {D : Type 0} → Ghosts D → Bool → Meta D → Meta D → Type 0
FailsToStoreEra disk false old new = ⊥
FailsToStoreEra disk true old new = FailsToCommitMarks disk old old.marks new × IsInMemory new old.marks true × KeepsSnapshot disk old new

-- An era that was unstored is stored.
abbrev pub HasStoredEra : {D : Type 0} → Ghosts D → Meta D → Meta D → Type 0
HasStoredEra disk old new = StoresEra disk old.unstored old new

-- An era that was unstored couldn't be stored: the command is told so, and nothing else was done.
pub record IsRefusedFirst {D : Type 0} (disk : Ghosts D) (id : CmdId) (kind : Kind) (count : ℕ) (old new : Keeper D) (pass pass' : PassToken) : Type 0 where
  pub failed : FailsToStoreEra disk old.meta.unstored old.meta new.meta
  pub drew : Drew (Refused id kind (MetaFault count) ∷ []) old new pass pass'

-- A command has begun: no era is unstored, nothing was drawn, and what is in memory is as it was.
pub record HasBegun {D : Type 0} (disk : Ghosts D) (old new : Keeper D) (pass pass' : PassToken) : Type 0 where
  pub fits : FitsAfter disk 1 new
  pub stored : HasStoredEra disk old.meta new.meta
  pub present : new.meta.unstored ≡ false
  pub memory : SameMemory old new
  pub undrawn : pass' ≡ pass

-- What a beginning came to, by its result.
abbrev pub BeginDid : {D : Type 0} → Ghosts D → CmdId → Kind → Result Unit ℕ → Keeper D → Keeper D → PassToken → PassToken → Type 0
BeginDid disk id kind (Ok value) old new pass pass' = HasBegun disk old new pass pass'
BeginDid disk id kind (Err count) old new pass pass' = KeeperFits disk new × IsRefusedFirst disk id kind count old new pass pass'
