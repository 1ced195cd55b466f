-- What a request to the metadata came to.
use Rattle.std.specs.Prelude.{◌≡◌, List, [], Option, Some, None, option_to_list}
use Rattle.era_base.specs.declared.disk.Disk.{Ghosts}
use Rattle.era_base.specs.declared.ids.CmdId.{CmdId}
use Rattle.era_gate.specs.Calls.{PassToken}
use Rattle.era_gate.specs.Passes.{no_write}
use Rattle.era_gate.specs.Receipts.{entries_in}
use Rattle.era_keeper.specs.Answers.{ListDid, StatusDid}
use Rattle.era_keeper.specs.Results.{AnswersCount, DigestDid}
use Rattle.era_keeper.specs.SnapshotResults.{SnapDid, UnsnapDid}
use Rattle.era_keeper.specs.Calls.{SameKeeper}
use Rattle.era_keeper.specs.declared.keeper.Keeper.{Keeper}
use Rattle.era_model.specs.declared.command.Request.{Request}
use Rattle.era_model.specs.declared.command.Request.TheVariants.{Checkpoint, TakeSnap, DropSnap, Digest as DigestRequest, Status as StatusRequest, List as ListRequest}
use Rattle.era_model.specs.declared.event.Event.{Event}
use Rattle.era_model.specs.declared.event.Event.TheVariants.{Snap, Dropped, Digest, List as ListEvent, Status, Refused}
use Rattle.era_model.specs.declared.event.Kind.TheVariants.{TakeSnap as TakeSnapKind, DropSnap as DropSnapKind, Digest as DigestKind, Status as StatusKind, List as ListKind}
use Rattle.era_model.specs.declared.event.Why.TheVariants.{Held as HeldWhy, Idle as IdleWhy, Memory as MemoryWhy, MetaFault, NoSnap as NoSnapWhy}
use Rattle.era_model.specs.declared.reply.Answer.{Answer}
use Rattle.era_model.specs.declared.reply.Answer.TheVariants.{Blocks, Digest as DigestAnswer, Fault, Fine, Held, Idle, Memory, NoSnap, Snap as SnapAnswer, Status as StatusAnswer}
use Rattle.era_notes.specs.Rooms.{last_in}
use Rattle.era_session.specs.AtStripes.{IsKeeperAdmitted}
use Rattle.era_session.specs.Receipts.{PassDrew}
use Rattle.era_session.specs.Sessions.{SamePlan}
use Rattle.era_session.specs.declared.session.Session.{Session}

-- The event of a request that the keeper alone serves, by its answer; none is of no such request.
abbrev pub request_event : CmdId → Request → Answer → Option Event
request_event id TakeSnap (SnapAnswer block) = Some (Snap id block)
request_event id TakeSnap (Held block) = Some (Refused id TakeSnapKind (HeldWhy block))
request_event id TakeSnap (Fault device count) = Some (Refused id TakeSnapKind (MetaFault count))
request_event id DropSnap Fine = Some (Dropped id)
request_event id DropSnap NoSnap = Some (Refused id DropSnapKind NoSnapWhy)
request_event id DropSnap (Fault device count) = Some (Refused id DropSnapKind (MetaFault count))
request_event id DigestRequest (DigestAnswer era page) = Some (Digest id era page)
request_event id DigestRequest Idle = Some (Refused id DigestKind IdleWhy)
request_event id DigestRequest (Fault device count) = Some (Refused id DigestKind (MetaFault count))
request_event id StatusRequest (StatusAnswer used total era held) = Some (Status id used total era held)
request_event id StatusRequest (Fault device count) = Some (Refused id StatusKind (MetaFault count))
request_event id (ListRequest since snap) (Blocks runs) = Some (ListEvent id since snap runs)
request_event id (ListRequest since snap) NoSnap = Some (Refused id ListKind NoSnapWhy)
request_event id (ListRequest since snap) Memory = Some (Refused id ListKind MemoryWhy)
request_event id (ListRequest since snap) (Fault device count) = Some (Refused id ListKind (MetaFault count))
request_event id request answer = None

-- The events of such a request, by its answer: the one that it drew.
abbrev pub request_events : CmdId → Request → Answer → List Event
request_events id request answer = option_to_list (request_event id request answer)

-- What a request did at the keeper, by its answer.
abbrev pub RequestWent : {D : Type 0} → Ghosts D → CmdId → Request → Answer → Keeper D → Keeper D → PassToken → PassToken → Type 0
RequestWent disk id Checkpoint answer old new pass pass' = ⊥
RequestWent disk id TakeSnap answer old new pass pass' = SnapDid disk id answer old new pass pass'
RequestWent disk id DropSnap answer old new pass pass' = UnsnapDid disk id answer old new pass pass'
RequestWent disk id DigestRequest answer old new pass pass' = DigestDid disk id answer old new pass pass'
RequestWent disk id StatusRequest answer old new pass pass' = StatusDid disk id answer old new pass pass'
RequestWent disk id (ListRequest since snap) answer old new pass pass' = ListDid disk id since snap answer old new pass pass'

-- A call of the keeper alone: it was given its room, without entries of the command yet, all stripes stay, and what it did is this.
pub record KeeperCalled {D : Type 0} (disk : Ghosts D) (Did : Keeper D → Keeper D → PassToken → PassToken → Type 0) (answer : Answer) (old new : Session D) : Type 0 where
  pub before : Keeper D
  pub admitted : IsKeeperAdmitted disk old.keeper before
  pub undrawn : last_in before.entries ≡ []
  pub did : Did before new.keeper old.pass new.pass
  pub stripes : new.stripes ≡ old.stripes
  pub plan : SamePlan old new
  pub same : SameKeeper disk old.keeper new.keeper
  pub cause : AnswersCount (disk.faults old.keeper.meta.slots.disk) (disk.faults new.keeper.meta.slots.disk) answer

-- The pass was given the receipts of a request's events, and of no others: their entries are those of the keeper's last chunk.
pub record RequestDrew {D : Type 0} (events : List Event) (old new : Session D) : Type 0 where
  pub drew : PassDrew events no_write old.pass new.pass
  pub trail : entries_in drew.receipts ≡ last_in new.keeper.entries
