-- What marks, era switches and digests at the keeper came to.
use Rattle.std.specs.Prelude.{◌≡◌, ◌⊎◌, ℕ, ◌+◌, ◌<◌, Bool, true, false, [], ◌∷◌, Option, Result, Ok, Err}
use Rattle.era_base.specs.Faults.{Rose}
use Rattle.era_base.specs.declared.disk.Disk.{Ghosts}
use Rattle.era_base.specs.declared.ids.CmdId.{CmdId}
use Rattle.era_base.specs.declared.limits.TheConstants.{LAST_ERA}
use Rattle.era_gate.specs.Calls.{PassToken}
use Rattle.era_keeper.specs.declared.keeper.Keeper.{Keeper}
use Rattle.era_keeper.specs.Calls.{Drew}
use Rattle.era_keeper.specs.Storing.{HasStoredEra, IsRefusedFirst}
use Rattle.era_meta.specs.declared.metadata.Meta.{Meta}
use Rattle.era_meta.specs.Digested.{HasMarks, StillHasMarks}
use Rattle.era_meta.specs.Digesting.{HasStep, IsDigest, after_digest}
use Rattle.era_meta.specs.MetaCalls.{FailsToCommitMarks, IsInMemory, KeepsSnapshot}
use Rattle.era_model.specs.declared.event.Event.TheVariants.{Tried, Mark, Roll, Kept, Digest, Refused}
use Rattle.era_model.specs.declared.event.Kind.TheVariants.{Write as WriteKind, Checkpoint as CheckpointKind, Digest as DigestKind}
use Rattle.era_model.specs.declared.event.Why.TheVariants.{End as EndWhy, Idle as IdleWhy, MetaFault}
use Rattle.era_model.specs.declared.reply.Answer.{Answer}
use Rattle.era_model.specs.declared.reply.Answer.TheVariants.{Digest as DigestAnswer, End, EraIs, Fault, Idle, Kept as KeptAnswer}
use Rattle.era_model.specs.declared.reply.Device.TheVariants.{Meta as MetaDevice}
use Rattle.era_model.specs.Digest.{digested}
use Rattle.era_model.specs.Marks.{with_block, rolled}

-- A count of faults is told exactly where the disk's count rose in the call, and is the count after it.
abbrev pub AnswersCount : ℕ → ℕ → Answer → Type 0
AnswersCount before now (Fault device count) = (device ≡ MetaDevice) × (count ≡ now) × Rose before now
AnswersCount before now answer = now ≡ before

-- A block's mark was asked for, stored by one commit, and drawn.
pub record HasMarked {D : Type 0} (disk : Ghosts D) (id : CmdId) (block : ℕ) (old new : Keeper D) (pass pass' : PassToken) : Type 0 where
  pub between : Meta D
  pub first : HasStoredEra disk old.meta between
  pub stored : HasMarks disk between (with_block old.meta.marks block) new.meta
  pub drew : Drew (Tried id block old.meta.marks.era ∷ Mark id block old.meta.marks.era ∷ []) old new pass pass'

-- A block's mark was asked for and couldn't be stored.
pub record FailsToMark {D : Type 0} (disk : Ghosts D) (id : CmdId) (block count : ℕ) (old new : Keeper D) (pass pass' : PassToken) : Type 0 where
  pub between : Meta D
  pub first : HasStoredEra disk old.meta between
  pub failed : StillHasMarks disk between (with_block old.meta.marks block) new.meta
  pub drew : Drew (Tried id block old.meta.marks.era ∷ Refused id WriteKind (MetaFault count) ∷ []) old new pass pass'

-- What a marking came to in an era that is stored, by the result.
abbrev pub MarkWent : {D : Type 0} → Ghosts D → CmdId → ℕ → Result Unit ℕ → Keeper D → Keeper D → PassToken → PassToken → Type 0
MarkWent disk id block (Ok value) old new pass pass' =
    HasMarks disk old.meta (with_block old.meta.marks block) new.meta
    × Drew (Tried id block old.meta.marks.era ∷ Mark id block old.meta.marks.era ∷ []) old new pass pass'
MarkWent disk id block (Err count) old new pass pass' =
    StillHasMarks disk old.meta (with_block old.meta.marks block) new.meta
    × Drew (Tried id block old.meta.marks.era ∷ Refused id WriteKind (MetaFault count) ∷ []) old new pass pass'

-- What a marking came to, by whether the block was marked in the present era and by the result.
abbrev pub MarkDid : {D : Type 0} → Ghosts D → Bool → CmdId → ℕ → Result Unit ℕ → Keeper D → Keeper D → PassToken → PassToken → Type 0
MarkDid disk true id block (Ok value) old new pass pass' = (new.meta ≡ old.meta) × Drew [] old new pass pass'
MarkDid disk true id block (Err count) old new pass pass' = ⊥
MarkDid disk false id block (Ok value) old new pass pass' = HasMarked disk id block old new pass pass'
MarkDid disk false id block (Err count) old new pass pass' =
    IsRefusedFirst disk id WriteKind count old new pass pass' ⊎ FailsToMark disk id block count old new pass pass'

-- The era is the last one: nothing was done.
pub record IsAtEnd {D : Type 0} (id : CmdId) (old new : Keeper D) (pass pass' : PassToken) : Type 0 where
  pub last : old.meta.marks.era ≡ LAST_ERA
  pub same : new.meta ≡ old.meta
  pub drew : Drew (Refused id CheckpointKind EndWhy ∷ []) old new pass pass'

-- The era is kept, since so many stripes were inside.
pub record HasKept {D : Type 0} (disk : Ghosts D) (id : CmdId) (inside : ℕ) (old new : Keeper D) (pass pass' : PassToken) : Type 0 where
  pub below : old.meta.marks.era < LAST_ERA
  pub first : HasStoredEra disk old.meta new.meta
  pub drew : Drew (Kept id inside ∷ []) old new pass pass'

-- The session moved to the next era: the switch was drawn, and then stored by one commit.
pub record HasSwitched {D : Type 0} (disk : Ghosts D) (id : CmdId) (era : ℕ) (old new : Keeper D) (pass pass' : PassToken) : Type 0 where
  pub next : era ≡ old.meta.marks.era + 1
  pub between : Meta D
  pub first : HasStoredEra disk old.meta between
  pub stored : HasMarks disk between (rolled old.meta.marks) new.meta
  pub drew : Drew (Roll id era ∷ []) old new pass pass'

-- The switch was drawn and couldn't be stored: the next era stands in memory alone.
pub record FailsToSwitch {D : Type 0} (disk : Ghosts D) (id : CmdId) (count : ℕ) (old new : Keeper D) (pass pass' : PassToken) : Type 0 where
  pub between : Meta D
  pub first : HasStoredEra disk old.meta between
  pub failed : FailsToCommitMarks disk between (rolled old.meta.marks) new.meta
  pub memory : IsInMemory new.meta (rolled old.meta.marks) true
  pub drew : Drew (Roll id (old.meta.marks.era + 1) ∷ Refused id CheckpointKind (MetaFault count) ∷ []) old new pass pass'

-- What a switch to an era behind an exchange came to, by its result.
abbrev pub SwitchWent : {D : Type 0} → Ghosts D → CmdId → ℕ → Result Unit ℕ → Keeper D → Keeper D → PassToken → PassToken → Type 0
SwitchWent disk id era (Ok value) old new pass pass' = HasMarks disk old.meta (rolled old.meta.marks) new.meta × Drew (Roll id era ∷ []) old new pass pass'
SwitchWent disk id era (Err count) old new pass pass' =
    FailsToCommitMarks disk old.meta (rolled old.meta.marks) new.meta × IsInMemory new.meta (rolled old.meta.marks) true
    × Drew (Roll id era ∷ Refused id CheckpointKind (MetaFault count) ∷ []) old new pass pass'

-- What an exchange and a switch came to in an era that is stored, by the answer.
abbrev pub CheckpointWent : {D : Type 0} → Ghosts D → CmdId → Answer → Keeper D → Keeper D → PassToken → PassToken → Type 0
CheckpointWent disk id (KeptAnswer inside) old new pass pass' = (new.meta ≡ old.meta) × Drew (Kept id inside ∷ []) old new pass pass'
CheckpointWent disk id (EraIs era) old new pass pass' =
    (era ≡ old.meta.marks.era + 1) × SwitchWent disk id (old.meta.marks.era + 1) (Ok tt) old new pass pass'
CheckpointWent disk id (Fault device count) old new pass pass' = SwitchWent disk id (old.meta.marks.era + 1) (Err count) old new pass pass'
CheckpointWent disk id answer old new pass pass' = ⊥

-- What a checkpoint came to, by its answer.
abbrev pub CheckpointDid : {D : Type 0} → Ghosts D → CmdId → Answer → Keeper D → Keeper D → PassToken → PassToken → Type 0
CheckpointDid disk id End old new pass pass' = IsAtEnd id old new pass pass'
CheckpointDid disk id (KeptAnswer inside) old new pass pass' = HasKept disk id inside old new pass pass'
CheckpointDid disk id (EraIs era) old new pass pass' = HasSwitched disk id era old new pass pass'
CheckpointDid disk id (Fault device count) old new pass pass' =
    (old.meta.marks.era < LAST_ERA) × (IsRefusedFirst disk id CheckpointKind count old new pass pass' ⊎ FailsToSwitch disk id count old new pass pass')
CheckpointDid disk id answer old new pass pass' = ⊥

-- A digest step was made and stored by one commit, and the snapshot is as before.
pub record HasMadeDigest {D : Type 0} (disk : Ghosts D) (id : CmdId) (era : ℕ) (page : Option ℕ) (old new : Keeper D) (pass pass' : PassToken) : Type 0 where
  pub step : IsDigest old.meta.marks era page
  pub between : Meta D
  pub first : HasStoredEra disk old.meta between
  pub stored : HasMarks disk between (digested old.meta.marks page) new.meta
  pub kept : KeepsSnapshot disk between new.meta
  pub drew : Drew (Digest id era page ∷ []) old new pass pass'

-- No set is archived.
pub record HasNoneToDigest {D : Type 0} (disk : Ghosts D) (id : CmdId) (old new : Keeper D) (pass pass' : PassToken) : Type 0 where
  pub none : old.meta.marks.archive ≡ []
  pub first : HasStoredEra disk old.meta new.meta
  pub drew : Drew (Refused id DigestKind IdleWhy ∷ []) old new pass pass'

-- There was a digest step, but it couldn't be stored, and the snapshot is as before.
pub record FailsToDigest {D : Type 0} (disk : Ghosts D) (id : CmdId) (count : ℕ) (old new : Keeper D) (pass pass' : PassToken) : Type 0 where
  pub some : HasStep old.meta.marks
  pub between : Meta D
  pub first : HasStoredEra disk old.meta between
  pub failed : StillHasMarks disk between (after_digest old.meta.marks) new.meta
  pub kept : KeepsSnapshot disk between new.meta
  pub drew : Drew (Refused id DigestKind (MetaFault count) ∷ []) old new pass pass'

-- What a digest came to, by its answer. Where the disk tells its content, the marks have a step left behind a fault: so that there is none is told exactly where no set is archived.
abbrev pub DigestDid : {D : Type 0} → Ghosts D → CmdId → Answer → Keeper D → Keeper D → PassToken → PassToken → Type 0
DigestDid disk id (DigestAnswer era page) old new pass pass' = HasMadeDigest disk id era page old new pass pass'
DigestDid disk id Idle old new pass pass' = HasNoneToDigest disk id old new pass pass'
DigestDid disk id (Fault device count) old new pass pass' =
    (disk.tells ≡ true → HasStep old.meta.marks)
    × (IsRefusedFirst disk id DigestKind count old new pass pass' ⊎ FailsToDigest disk id count old new pass pass')
DigestDid disk id answer old new pass pass' = ⊥
