-- What digests, snapshots and lists came to in an era that is stored, by the answer.
use Rattle.std.specs.Prelude.{◌≡◌, ℕ, Bool, true, false, [], ◌∷◌}
use Rattle.era_base.specs.declared.disk.Disk.{Ghosts}
use Rattle.era_base.specs.declared.ids.CmdId.{CmdId}
use Rattle.era_gate.specs.Calls.{PassToken}
use Rattle.era_keeper.specs.declared.keeper.Keeper.{Keeper}
use Rattle.era_keeper.specs.Answers.{ListsSince}
use Rattle.era_keeper.specs.Calls.{Drew}
use Rattle.era_meta.specs.Digested.{HasMarks, StillHasMarks}
use Rattle.era_meta.specs.Digesting.{HasStep, IsDigest, after_digest}
use Rattle.era_meta.specs.MetaCalls.{KeepsSnapshot}
use Rattle.era_meta.specs.SnapshotCalls.{CommitsSnapshot, FailsToCommitSnapshot, KeepsMarks}
use Rattle.era_model.specs.declared.event.Event.TheVariants.{Snap, Dropped, Digest, List as ListEvent, Refused}
use Rattle.era_model.specs.declared.event.Kind.TheVariants.{TakeSnap as TakeSnapKind, DropSnap as DropSnapKind, Digest as DigestKind, List as ListKind}
use Rattle.era_model.specs.declared.event.Why.TheVariants.{Idle as IdleWhy, Memory as MemoryWhy, MetaFault}
use Rattle.era_model.specs.declared.reply.Answer.{Answer}
use Rattle.era_model.specs.declared.reply.Answer.TheVariants.{Blocks, Digest as DigestAnswer, Fault, Fine, Idle, Memory, Snap as SnapAnswer}
use Rattle.era_model.specs.Digest.{digested}

-- What a list came to.
abbrev pub ListWent : {D : Type 0} → CmdId → ℕ → Bool → Answer → Keeper D → Keeper D → PassToken → PassToken → Type 0
ListWent id since snap (Blocks runs) old new pass pass' =
    (new.meta ≡ old.meta) × ListsSince old since snap runs × Drew (ListEvent id since snap runs ∷ []) old new pass pass'
ListWent id since snap Memory old new pass pass' = (new.meta ≡ old.meta) × Drew (Refused id ListKind MemoryWhy ∷ []) old new pass pass'
ListWent id since snap answer old new pass pass' = ⊥

-- What a taking of a snapshot came to, where none is held.
abbrev pub SnapWent : {D : Type 0} → Ghosts D → CmdId → Answer → Keeper D → Keeper D → PassToken → PassToken → Type 0
SnapWent disk id (SnapAnswer block) old new pass pass' =
    (block ≡ 2) × CommitsSnapshot disk old.meta true new.meta × KeepsMarks disk old.meta new.meta × Drew (Snap id block ∷ []) old new pass pass'
SnapWent disk id (Fault device count) old new pass pass' =
    FailsToCommitSnapshot disk old.meta true new.meta × KeepsMarks disk old.meta new.meta
    × Drew (Refused id TakeSnapKind (MetaFault count) ∷ []) old new pass pass'
SnapWent disk id answer old new pass pass' = ⊥

-- What a dropping of the snapshot came to, where one is held.
abbrev pub UnsnapWent : {D : Type 0} → Ghosts D → CmdId → Answer → Keeper D → Keeper D → PassToken → PassToken → Type 0
UnsnapWent disk id Fine old new pass pass' =
    CommitsSnapshot disk old.meta false new.meta × KeepsMarks disk old.meta new.meta × Drew (Dropped id ∷ []) old new pass pass'
UnsnapWent disk id (Fault device count) old new pass pass' =
    FailsToCommitSnapshot disk old.meta false new.meta × KeepsMarks disk old.meta new.meta
    × Drew (Refused id DropSnapKind (MetaFault count) ∷ []) old new pass pass'
UnsnapWent disk id answer old new pass pass' = ⊥

-- What a digest came to.
abbrev pub DigestWent : {D : Type 0} → Ghosts D → CmdId → Answer → Keeper D → Keeper D → PassToken → PassToken → Type 0
DigestWent disk id (DigestAnswer era page) old new pass pass' =
    IsDigest old.meta.marks era page × HasMarks disk old.meta (digested old.meta.marks page) new.meta × KeepsSnapshot disk old.meta new.meta
    × Drew (Digest id era page ∷ []) old new pass pass'
DigestWent disk id Idle old new pass pass' =
    (old.meta.marks.archive ≡ []) × (new.meta ≡ old.meta) × Drew (Refused id DigestKind IdleWhy ∷ []) old new pass pass'
DigestWent disk id (Fault device count) old new pass pass' =
    HasStep old.meta.marks × StillHasMarks disk old.meta (after_digest old.meta.marks) new.meta × KeepsSnapshot disk old.meta new.meta
    × Drew (Refused id DigestKind (MetaFault count) ∷ []) old new pass pass'
DigestWent disk id answer old new pass pass' = ⊥
