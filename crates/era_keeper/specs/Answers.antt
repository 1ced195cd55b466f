-- What a status and a list at the keeper came to.
use Rattle.std.specs.Prelude.{◌≡◌, ℕ, ◌/◌, Bool, true, false, List, [], ◌∷◌, Option}
use Rattle.era_base.specs.Calls.{Now}
use Rattle.era_base.specs.declared.disk.Disk.{Ghosts}
use Rattle.era_base.specs.declared.ids.CmdId.{CmdId}
use Rattle.era_gate.specs.Calls.{PassToken}
use Rattle.era_keeper.specs.declared.keeper.Keeper.{Keeper}
use Rattle.era_keeper.specs.Calls.{Drew}
use Rattle.era_keeper.specs.Storing.{HasStoredEra, IsRefusedFirst}
use Rattle.era_meta.specs.declared.metadata.Meta.{Meta}
use Rattle.era_meta.specs.Held.{snapshot_marks}
use Rattle.era_meta.specs.Status.{TellsUsage}
use Rattle.era_model.specs.declared.event.Event.TheVariants.{List as ListEvent, Refused, Status as StatusEvent}
use Rattle.era_model.specs.declared.event.Kind.TheVariants.{List as ListKind, Status as StatusKind}
use Rattle.era_model.specs.declared.event.Why.TheVariants.{Memory as MemoryWhy, NoSnap as NoSnapWhy}
use Rattle.era_model.specs.declared.reply.Answer.{Answer}
use Rattle.era_model.specs.declared.reply.Answer.TheVariants.{Blocks, Fault, Memory, NoSnap, Status}
use Rattle.era_model.specs.Conditions.{ListsExactly, ListsSnapshot}
use Rattle.era_model.specs.Marks.{blocks_of_marks, written_since}
use Rattle.era_model.specs.Usage.{IsUsage, held_block}

-- A status is that of the metadata. Where the disk tells its content, so many blocks are used as the roots reach.
pub record IsStatus {D : Type 0} (disk : Ghosts D) (meta : Meta D) (used total era : ℕ) (held : Option ℕ) : Type 0 where
  pub usage : IsUsage meta.marks (snapshot_marks meta.snapshot) used
  pub counted : Now disk (λ now. TellsUsage meta used) meta.slots.disk
  pub size : total ≡ disk.sectors meta.slots.disk / 8
  pub present : era ≡ meta.marks.era
  pub block : held ≡ held_block (snapshot_marks meta.snapshot)

-- The status was told.
pub record HasTold {D : Type 0} (disk : Ghosts D) (id : CmdId) (used total era : ℕ) (held : Option ℕ) (old new : Keeper D) (pass pass' : PassToken) : Type 0 where
  pub first : HasStoredEra disk old.meta new.meta
  pub is : IsStatus disk new.meta used total era held
  pub drew : Drew (StatusEvent id used total era held ∷ []) old new pass pass'

-- What a status came to, by its answer.
abbrev pub StatusDid : {D : Type 0} → Ghosts D → CmdId → Answer → Keeper D → Keeper D → PassToken → PassToken → Type 0
StatusDid disk id (Status used total era held) old new pass pass' = HasTold disk id used total era held old new pass pass'
StatusDid disk id (Fault device count) old new pass pass' = IsRefusedFirst disk id StatusKind count old new pass pass'
StatusDid disk id answer old new pass pass' = ⊥

-- Runs are exactly those of the blocks since an era, by the marks or by the snapshot.
abbrev pub ListsSince : {D : Type 0} → Keeper D → ℕ → Bool → List (ℕ × ℕ) → Type 0
ListsSince keeper since false runs = ListsExactly (blocks_of_marks keeper.meta.marks) (written_since keeper.meta.marks since) runs
ListsSince keeper since true runs = ListsSnapshot (snapshot_marks keeper.meta.snapshot) since runs

-- The blocks since an era were listed, by the marks or by the snapshot.
pub record HasListed {D : Type 0} (disk : Ghosts D) (id : CmdId) (since : ℕ) (snap : Bool) (runs : List (ℕ × ℕ)) (old new : Keeper D) (pass pass' : PassToken) : Type 0 where
  pub first : HasStoredEra disk old.meta new.meta
  pub listed : ListsSince old since snap runs
  pub drew : Drew (ListEvent id since snap runs ∷ []) old new pass pass'

-- The snapshot was asked for, and none is held: nothing was done.
pub record ListsNone {D : Type 0} (id : CmdId) (snap : Bool) (old new : Keeper D) (pass pass' : PassToken) : Type 0 where
  pub asked : snap ≡ true
  pub none : old.meta.snapshot.is_held ≡ false
  pub same : new.meta ≡ old.meta
  pub drew : Drew (Refused id ListKind NoSnapWhy ∷ []) old new pass pass'

-- Memory for the list was refused.
pub record LacksMemory {D : Type 0} (disk : Ghosts D) (id : CmdId) (old new : Keeper D) (pass pass' : PassToken) : Type 0 where
  pub first : HasStoredEra disk old.meta new.meta
  pub drew : Drew (Refused id ListKind MemoryWhy ∷ []) old new pass pass'

-- Where the snapshot is asked for, one is held.
abbrev pub CanList : {D : Type 0} → Bool → Keeper D → Type 0
CanList snap keeper = snap ≡ true → keeper.meta.snapshot.is_held ≡ true

-- What a list came to, by its answer.
abbrev pub ListDid : {D : Type 0} → Ghosts D → CmdId → ℕ → Bool → Answer → Keeper D → Keeper D → PassToken → PassToken → Type 0
ListDid disk id since snap (Blocks runs) old new pass pass' = CanList snap old × HasListed disk id since snap runs old new pass pass'
ListDid disk id since snap NoSnap old new pass pass' = ListsNone id snap old new pass pass'
ListDid disk id since snap Memory old new pass pass' = CanList snap old × LacksMemory disk id old new pass pass'
ListDid disk id since snap (Fault device count) old new pass pass' = CanList snap old × IsRefusedFirst disk id ListKind count old new pass pass'
ListDid disk id since snap answer old new pass pass' = ⊥
