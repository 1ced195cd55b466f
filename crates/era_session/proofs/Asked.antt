-- What each request to the metadata drew: the one event that its answer says.
use Rattle.std.proofs.Common.{inl, inr}
use Rattle.era_base.specs.declared.disk.Disk.{Ghosts}
use Rattle.era_base.specs.declared.ids.CmdId.{CmdId}
use Rattle.era_gate.specs.Calls.{PassToken}
use Rattle.era_gate.specs.Passes.{no_write}
use Rattle.std.specs.Prelude.{ℕ, Bool}
use Rattle.era_keeper.specs.Answers.{ListDid, StatusDid}
use Rattle.era_keeper.specs.Results.{DigestDid}
use Rattle.era_keeper.specs.SnapshotResults.{SnapDid, UnsnapDid}
use Rattle.era_keeper.specs.declared.keeper.Keeper.{Keeper}
use Rattle.era_model.specs.declared.command.Request.TheVariants.{TakeSnap, DropSnap, Digest as DigestRequest, Status as StatusRequest, List as ListRequest}
use Rattle.era_model.specs.declared.reply.Answer.{Answer}
use Rattle.era_model.specs.declared.reply.Answer.TheVariants.{Blocks, Digest as DigestAnswer, End, EraIs, Fault, Fine, Found, Held, Idle, Kept, Memory, NoSnap, Range, Snap as SnapAnswer, Status as StatusAnswer}
use Rattle.era_session.specs.Chunks.{ChunkDrew}
use Rattle.era_session.specs.Requests.{request_events}
use Rattle.era_session.proofs.Receipts.{keeper-drew}

-- a taking of a snapshot
pub snap-drew : {D : Type 0} (disk : Ghosts D) (id : CmdId) (answer : Answer) (old new : Keeper D) (pass pass' : PassToken) → SnapDid disk id answer old new pass pass'
    → ChunkDrew (request_events id TakeSnap answer) no_write pass pass' old.entries new.entries
snap-drew disk id Fine old new pass pass' did = absurd did
snap-drew disk id Range old new pass pass' did = absurd did
snap-drew disk id (Fault device count) old new pass pass' (none, inl refused) = keeper-drew _ old new pass pass' refused.drew
snap-drew disk id (Fault device count) old new pass pass' (none, inr failed) = keeper-drew _ old new pass pass' failed.drew
snap-drew disk id (Found bytes) old new pass pass' did = absurd did
snap-drew disk id (EraIs era) old new pass pass' did = absurd did
snap-drew disk id (Kept inside) old new pass pass' did = absurd did
snap-drew disk id End old new pass pass' did = absurd did
snap-drew disk id (SnapAnswer block) old new pass pass' did = keeper-drew _ old new pass pass' did.drew
snap-drew disk id (Held block) old new pass pass' did = keeper-drew _ old new pass pass' did.drew
snap-drew disk id NoSnap old new pass pass' did = absurd did
snap-drew disk id (DigestAnswer era page) old new pass pass' did = absurd did
snap-drew disk id Idle old new pass pass' did = absurd did
snap-drew disk id (StatusAnswer used total era held) old new pass pass' did = absurd did
snap-drew disk id (Blocks runs) old new pass pass' did = absurd did
snap-drew disk id Memory old new pass pass' did = absurd did

-- a dropping of the snapshot
pub unsnap-drew : {D : Type 0} (disk : Ghosts D) (id : CmdId) (answer : Answer) (old new : Keeper D) (pass pass' : PassToken) → UnsnapDid disk id answer old new pass pass'
    → ChunkDrew (request_events id DropSnap answer) no_write pass pass' old.entries new.entries
unsnap-drew disk id Fine old new pass pass' did = keeper-drew _ old new pass pass' did.drew
unsnap-drew disk id Range old new pass pass' did = absurd did
unsnap-drew disk id (Fault device count) old new pass pass' (held, inl refused) = keeper-drew _ old new pass pass' refused.drew
unsnap-drew disk id (Fault device count) old new pass pass' (held, inr failed) = keeper-drew _ old new pass pass' failed.drew
unsnap-drew disk id (Found bytes) old new pass pass' did = absurd did
unsnap-drew disk id (EraIs era) old new pass pass' did = absurd did
unsnap-drew disk id (Kept inside) old new pass pass' did = absurd did
unsnap-drew disk id End old new pass pass' did = absurd did
unsnap-drew disk id (SnapAnswer block) old new pass pass' did = absurd did
unsnap-drew disk id (Held block) old new pass pass' did = absurd did
unsnap-drew disk id NoSnap old new pass pass' did = keeper-drew _ old new pass pass' did.drew
unsnap-drew disk id (DigestAnswer era page) old new pass pass' did = absurd did
unsnap-drew disk id Idle old new pass pass' did = absurd did
unsnap-drew disk id (StatusAnswer used total era held) old new pass pass' did = absurd did
unsnap-drew disk id (Blocks runs) old new pass pass' did = absurd did
unsnap-drew disk id Memory old new pass pass' did = absurd did

-- a digest step
pub digest-drew : {D : Type 0} (disk : Ghosts D) (id : CmdId) (answer : Answer) (old new : Keeper D) (pass pass' : PassToken) → DigestDid disk id answer old new pass pass'
    → ChunkDrew (request_events id DigestRequest answer) no_write pass pass' old.entries new.entries
digest-drew disk id Fine old new pass pass' did = absurd did
digest-drew disk id Range old new pass pass' did = absurd did
digest-drew disk id (Fault device count) old new pass pass' (step, inl refused) = keeper-drew _ old new pass pass' refused.drew
digest-drew disk id (Fault device count) old new pass pass' (step, inr failed) = keeper-drew _ old new pass pass' failed.drew
digest-drew disk id (Found bytes) old new pass pass' did = absurd did
digest-drew disk id (EraIs era) old new pass pass' did = absurd did
digest-drew disk id (Kept inside) old new pass pass' did = absurd did
digest-drew disk id End old new pass pass' did = absurd did
digest-drew disk id (SnapAnswer block) old new pass pass' did = absurd did
digest-drew disk id (Held block) old new pass pass' did = absurd did
digest-drew disk id NoSnap old new pass pass' did = absurd did
digest-drew disk id (DigestAnswer era page) old new pass pass' did = keeper-drew _ old new pass pass' did.drew
digest-drew disk id Idle old new pass pass' did = keeper-drew _ old new pass pass' did.drew
digest-drew disk id (StatusAnswer used total era held) old new pass pass' did = absurd did
digest-drew disk id (Blocks runs) old new pass pass' did = absurd did
digest-drew disk id Memory old new pass pass' did = absurd did

-- a status
pub status-drew : {D : Type 0} (disk : Ghosts D) (id : CmdId) (answer : Answer) (old new : Keeper D) (pass pass' : PassToken) → StatusDid disk id answer old new pass pass'
    → ChunkDrew (request_events id StatusRequest answer) no_write pass pass' old.entries new.entries
status-drew disk id Fine old new pass pass' did = absurd did
status-drew disk id Range old new pass pass' did = absurd did
status-drew disk id (Fault device count) old new pass pass' did = keeper-drew _ old new pass pass' did.drew
status-drew disk id (Found bytes) old new pass pass' did = absurd did
status-drew disk id (EraIs era) old new pass pass' did = absurd did
status-drew disk id (Kept inside) old new pass pass' did = absurd did
status-drew disk id End old new pass pass' did = absurd did
status-drew disk id (SnapAnswer block) old new pass pass' did = absurd did
status-drew disk id (Held block) old new pass pass' did = absurd did
status-drew disk id NoSnap old new pass pass' did = absurd did
status-drew disk id (DigestAnswer era page) old new pass pass' did = absurd did
status-drew disk id Idle old new pass pass' did = absurd did
status-drew disk id (StatusAnswer used total era held) old new pass pass' did = keeper-drew _ old new pass pass' did.drew
status-drew disk id (Blocks runs) old new pass pass' did = absurd did
status-drew disk id Memory old new pass pass' did = absurd did

-- a list
pub list-drew : {D : Type 0} (disk : Ghosts D) (id : CmdId) (since : ℕ) (snap : Bool) (answer : Answer) (old new : Keeper D) (pass pass' : PassToken) → ListDid disk id since snap answer old new pass pass'
    → ChunkDrew (request_events id (ListRequest since snap) answer) no_write pass pass' old.entries new.entries
list-drew disk id since snap Fine old new pass pass' did = absurd did
list-drew disk id since snap Range old new pass pass' did = absurd did
list-drew disk id since snap (Fault device count) old new pass pass' did = keeper-drew _ old new pass pass' did.1.drew
list-drew disk id since snap (Found bytes) old new pass pass' did = absurd did
list-drew disk id since snap (EraIs era) old new pass pass' did = absurd did
list-drew disk id since snap (Kept inside) old new pass pass' did = absurd did
list-drew disk id since snap End old new pass pass' did = absurd did
list-drew disk id since snap (SnapAnswer block) old new pass pass' did = absurd did
list-drew disk id since snap (Held block) old new pass pass' did = absurd did
list-drew disk id since snap NoSnap old new pass pass' did = keeper-drew _ old new pass pass' did.drew
list-drew disk id since snap (DigestAnswer era page) old new pass pass' did = absurd did
list-drew disk id since snap Idle old new pass pass' did = absurd did
list-drew disk id since snap (StatusAnswer used total era held) old new pass pass' did = absurd did
list-drew disk id since snap (Blocks runs) old new pass pass' did = keeper-drew _ old new pass pass' did.1.drew
list-drew disk id since snap Memory old new pass pass' did = keeper-drew _ old new pass pass' did.1.drew
